use Rattle.std.proofs.Common.{rules, sym, ◌<◌}
use Rattle.stl_text.proofs.lemmas.Lanes.{low_mask, lowest, none_count, count_clear, count_within}
use Rattle.stl_text.proofs.layout.front_len.Goals as goal

pub returns-then-low-eq0-clause-count : goal.returns-then-low-eq0-clause-count
returns-then-low-eq0-clause-count c = sym (none_count c.args.bytes.now c.requires c.if-low-eq0.true)

pub returns-then-low-eq0-clause-clear : goal.returns-then-low-eq0-clause-clear
returns-then-low-eq0-clause-clear c = count_clear c.args.bytes.now c.requires _ (returns-then-low-eq0-clause-count c)

pub returns-else-low-eq0-clause-count : goal.returns-else-low-eq0-clause-count
returns-else-low-eq0-clause-count c =
    let some : 0 < low_mask c.args.bytes.now = search rules in
    lowest c.args.bytes.now c.requires some

pub returns-else-low-eq0-clause-clear : goal.returns-else-low-eq0-clause-clear
returns-else-low-eq0-clause-clear c = count_clear c.args.bytes.now c.requires _ (returns-else-low-eq0-clause-count c)

pub returns-else-low-eq0-clause-within : goal.returns-else-low-eq0-clause-within
returns-else-low-eq0-clause-within c = count_within c.args.bytes.now c.requires _ (returns-else-low-eq0-clause-count c)
