use Rattle.stlslice.proofs.write.image_pages.write_images_by.Goals as goal

pub write_by_pages-requires-clause-sets : goal.write_by_pages-requires-clause-sets
write_by_pages-requires-clause-sets g c κs within = c.in-Some.ensures.sets

pub returns-in-Some : goal.returns-in-Some
returns-in-Some g c = c.write_by_pages.ensures

pub returns-in-None : goal.returns-in-None
returns-in-None g c = c.write_images.ensures
