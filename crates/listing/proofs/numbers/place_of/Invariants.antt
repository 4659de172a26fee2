use Rattle.std.proofs.Common.{◌≡◌, Bool, List, ◌++◌}
use Rattle.std.specs.Iterator.Adapters.{rev_source}
use Rattle.std.specs.Slice.Iter.{iter_rest}
use Rattle.listing.specs.Order.{place}
use Rattle.listing.proofs.numbers.place_of.Given as goal

-- the marks so far are the last ones
abbrev pub invariant-loop-mark : goal.invariant-loop-mark
invariant-loop-mark l =
    goal.iterator-loop-mark.can_next l.mark-iterator
    × goal.iterator-loop-mark.is_finite l.mark-iterator
    × ((done : List Bool) × (iter_rest (rev_source l.mark-iterator) ++ done ≡ l.marks) × (l.place ≡ place done))
