use Rattle.layer_pool.proofs.pool.build.Given as goal

-- the type parameter of `build_of` stands for this job
abbrev pub ghosts-build_of : goal.ghosts-build_of
ghosts-build_of g a = record { job = a.job.now }
