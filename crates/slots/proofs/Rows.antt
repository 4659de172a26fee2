-- A row grows by one at its newest end as a loop passes one more event; what its ends come to is the window's total.
use Rattle.std.proofs.Common.{◌≡◌, ℕ, ◌+◌, ◌<◌, Bool, true, false, cond, ◌&&◌, eqb, ltb, leb, List, [], ◌∷◌, reverse, length, get_or, take, sym, refl, ap, ◌∙◌, ap₂, arith}
use Rattle.std.proofs.lemmas.List.{take_more, reverse-append, length-reverse, length-take-le}
use Rattle.std.proofs.lemmas.Bool.{lt-ltb}
use Rattle.events.specs.declared.event.Event.{Event}
use Rattle.events.specs.Types.{code_of}
use Rattle.grammar.specs.Trees.{In, here, there}
use Rattle.pattern.specs.declared.template.Template.{Template}
use Rattle.rules.specs.Rules.{Rule}
use Rattle.semantics.specs.declared.setup.Setup.{Setup}
use Rattle.semantics.specs.Recursion.{shape_of, total}
use Rattle.semantics.specs.Windows.{window_start, window_end}
use Rattle.weights.specs.Kinds.{Kind}
use Rattle.semantics.specs.Core.{gathered}
use Rattle.slots.specs.Rows.{slot, row, ends_by}

module _ {V : Type 0} (kind : Kind V) (slots : List V) (k : ℕ) (es : List Event) (i : ℕ) (e : Event) (lt : i < length es) (is : e ≡ get_or es i e) where
  pub row_more : row kind slots k (reverse (take (i + 1) es)) ≡ record { event = e; value = slot kind slots i k } ∷ row kind slots k (reverse (take i es))
  row_more =
      ap (λ xs. row kind slots k (reverse xs)) (take_more es i e lt)
      ∙ ap (row kind slots k) (reverse-append (take i es) (get_or es i e ∷ []))
      ∙ ap (λ d. row kind slots k (d ∷ reverse (take i es))) (sym is)
      ∙ ap (λ (n : ℕ). record { event = e; value = slot kind slots n k } ∷ row kind slots k (reverse (take i es))) (length-reverse (take i es) ∙ length-take-le i es (omega arith))

  pub gathered_more : (test : Event → Bool) (b : Bool) (sum more : V) → sum ≡ gathered kind test (row kind slots k (reverse (take i es))) → b ≡ test e → more ≡ cond b (kind.join (slot kind slots i k) sum) sum
      → more ≡ gathered kind test (row kind slots k (reverse (take (i + 1) es)))
  gathered_more test b sum more h tested so =
      so
      ∙ ap₂ (λ a v. cond a (kind.join (slot kind slots i k) v) v) tested h
      ∙ sym (ap (gathered kind test) row_more)

-- where no event is past the end of window k, the join of the ends not before its start is the total of the window
pub total_gathered : {V R : Type 0} (kind : Kind V) (rule : Rule R) (s : Setup R) (template : Template) (slots : List V) (k g : ℕ) (es : List Event) → ((e : Event) → In e es → e.time < window_end s k)
    → gathered kind (ends_by g (code_of template.end) (window_start s k)) (row kind slots k es) ≡ total kind rule s (shape_of template) k g (row kind slots k es)
total_gathered kind rule s template slots k g [] early = refl
total_gathered {V} kind rule s template slots k g (e ∷ es) early =
    ap₂ (λ (b : Bool) v. cond (eqb e.lift g && (b && eqb e.kind (code_of template.end))) (kind.join (slot kind slots (length es) k) v) v)
    (sym (and_true (leb (window_start s k) e.time) (ltb e.time (window_end s k)) (lt-ltb e.time (window_end s k) (early e here))))
    (total_gathered kind rule s template slots k g es (λ d i. early d (there i)))
  where
    and_true : (a b : Bool) → b ≡ true → (a && b) ≡ a
    and_true true b h = h
    and_true false b h = refl
