-- A weight kind: values with two operations, join over trends and chain along a trend, a weight for each event, and the laws they keep.
-- Example: Least joins by the smaller and chains by the sum, so joining chained loads gives the least total load of a trend.
use Rattle.std.specs.Prelude.{◌≡◌}
use Rattle.events.specs.declared.event.Event.{Event}

pub record Kind (V : Type 0) : Type 0 where
  -- the join of nothing
  pub zero : V
  -- the chain of nothing
  pub one : V
  pub join : V → V → V
  pub chain : V → V → V
  -- what an event weighs
  pub weigh : Event → V

-- an operation with a neutral value, in which brackets do not matter
pub record Monoid {V : Type 0} (unit : V) (op : V → V → V) : Type 0 where
  pub assoc : (x y z : V) → op (op x y) z ≡ op x (op y z)
  pub identity_left : (x : V) → op unit x ≡ x
  pub identity_right : (x : V) → op x unit ≡ x

-- in which order does not matter either
pub record CommutativeMonoid {V : Type 0} (unit : V) (op : V → V → V) : Type 0 where
  pub monoid : Monoid unit op
  pub comm : (x y : V) → op x y ≡ op y x

-- what is chained to a join is chained to both its sides
pub record Distributive {V : Type 0} (join chain : V → V → V) : Type 0 where
  pub distrib_left : (x y z : V) → chain x (join y z) ≡ join (chain x y) (chain x z)
  pub distrib_right : (x y z : V) → chain (join y z) x ≡ join (chain y x) (chain z x)

-- chained to zero is zero
pub record Annihilating {V : Type 0} (zero : V) (chain : V → V → V) : Type 0 where
  pub zero_left : (x : V) → chain zero x ≡ zero
  pub zero_right : (x : V) → chain x zero ≡ zero

-- all that a kind must keep
pub record Laws {V : Type 0} (k : Kind V) : Type 0 where
  pub joining : CommutativeMonoid k.zero k.join
  pub chaining : Monoid k.one k.chain
  pub distributive : Distributive k.join k.chain
  pub annihilating : Annihilating k.zero k.chain
