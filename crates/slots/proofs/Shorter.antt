-- A row without its oldest events: where none of them lies in the window, the others have the same values.
use Rattle.std.proofs.Common.{◌≡◌, ℕ, ◌+◌, ◌<◌, false, cond, eqb, ltb, leb, List, [], ◌∷◌, ◌++◌, length, sym, refl, ap, ◌∙◌, ap₂, arith}
use Rattle.std.proofs.lemmas.List.{length-append}
use Rattle.std.proofs.lemmas.Bool.{and_left, and_right, cond-false, lt-leb}
use Rattle.events.specs.declared.event.Event.{Event}
use Rattle.rules.specs.Rules.{Rule}
use Rattle.weights.specs.Kinds.{Kind}
use Rattle.semantics.specs.declared.setup.Setup.{Setup}
use Rattle.semantics.specs.Recursion.{Shape, in_window, precedes, before, Filled}
use Rattle.semantics.specs.Trends.{All}
use Rattle.semantics.specs.Windows.{window_start, window_end}
use Rattle.slots.specs.Rows.{slot, row}

module _ {V R : Type 0} (kind : Kind V) (rule : Rule R) (s : Setup R) (shape : Shape) (k : ℕ) where
  -- an event before the window's start precedes none in it
  early_apart : (e p : Event) → p.time < window_start s k → precedes kind rule s shape k e p ≡ false
  early_apart e p lt =
      and_right (eqb p.lift e.lift) _
      (and_left (in_window kind rule s shape k p) _ (and_left (leb (window_start s k) p.time) (ltb p.time (window_end s k)) (lt-leb (window_start s k) p.time lt)))

  -- a row of such events is filled, whatever its slots hold
  pub filled_early : (slots : List V) (es : List Event) → All (λ e. e.time < window_start s k) es → Filled kind rule s shape k (row kind slots k es)
  filled_early slots [] early = tt
  filled_early slots (e ∷ es) early = (λ inside. absurd (omega (arith, early.0, inside.0)), filled_early slots es early.1)

  -- and comes to nothing for any event
  before_early : (slots : List V) (e : Event) (es : List Event) → All (λ d. d.time < window_start s k) es → before kind rule s shape k e (row kind slots k es) ≡ kind.zero
  before_early slots e [] early = refl
  before_early slots e (p ∷ es) early = cond-false (precedes kind rule s shape k e p) _ _ (early_apart e p early.0) ∙ before_early slots e es early.1

  -- the slots have moved down by as many places as there are older events
  module _ (slots moved : List V) (older : List Event) (early : All (λ e. e.time < window_start s k) older) where
    abbrev Follow : List Event → Type 0
    Follow es = (i : ℕ) → i < length es → slot kind moved i k ≡ slot kind slots (i + length older) k

    value_moved : (e : Event) (es : List Event) → Follow (e ∷ es) → slot kind moved (length es) k ≡ slot kind slots (length (es ++ older)) k
    value_moved e es same = same (length es) (omega arith) ∙ ap (λ (n : ℕ). slot kind slots n k) (sym (length-append es older))

    before_moved : (e : Event) (es : List Event) → Follow es → before kind rule s shape k e (row kind slots k (es ++ older)) ≡ before kind rule s shape k e (row kind moved k es)
    before_moved e [] same = before_early slots e older early
    before_moved e (p ∷ es) same =
        ap₂ (λ v u. cond (precedes kind rule s shape k e p) (kind.join v u) u) (sym (value_moved p es same)) (before_moved e es (λ i lt. same i (omega arith)))

    pub filled_moved : (es : List Event) → Follow es → Filled kind rule s shape k (row kind slots k (es ++ older)) → Filled kind rule s shape k (row kind moved k es)
    filled_moved [] same filled = tt
    filled_moved (e ∷ es) same filled =
        let rest : Follow es = λ i lt. same i (omega arith) in (
          λ inside.
              value_moved e es same ∙ filled.0 inside
              ∙ ap (λ v. kind.chain (kind.join (cond (shape.starts e.kind) kind.one kind.zero) v) (kind.weigh e)) (before_moved e es rest),
          filled_moved es rest filled.1,
        )
