-- A lawful map between two kinds carries all that the first is made of to the second, and so every result.
-- Example: forgetting the ways carries LeastWays to Least.
use Rattle.std.specs.Prelude.{◌≡◌}
use Rattle.events.specs.declared.event.Event.{Event}
use Rattle.weights.specs.Kinds.{Kind}

pub record Carries {V W : Type 0} (j : Kind V) (k : Kind W) (map : V → W) : Type 0 where
  pub zero : map j.zero ≡ k.zero
  pub one : map j.one ≡ k.one
  pub join : (x y : V) → map (j.join x y) ≡ k.join (map x) (map y)
  pub chain : (x y : V) → map (j.chain x y) ≡ k.chain (map x) (map y)
  pub weigh : (e : Event) → map (j.weigh e) ≡ k.weigh e
