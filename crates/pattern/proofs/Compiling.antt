-- What the marks of a template gain by one node, from what they gained by the parts before it.
use Rattle.std.proofs.Common.{◌≡◌, ℕ, ◌⊎◌, ◌↔◌, true, List, [], ◌∷◌, ◌++◌, reverse, length, Some, None, Option, is_some, sym, refl, ap, ◌∙◌, subst, inl, inr, ⊎_elim, arith}
use Rattle.std.specs.Borrow.{Bor}
use Rattle.events.specs.declared.EventType.{EventType}
use Rattle.events.specs.Types.{code_of}
use Rattle.grammar.specs.Templates.{start_of, end_of, Step, Onward, Leads}
use Rattle.grammar.specs.Trees.{part, Tree, name, plus, seq, two, names, In, here, Distinct}
use Rattle.grammar.proofs.Paths.{in_left, in_right, words_are_paths}
use Rattle.pattern.specs.declared.node.Node.{Node}
use Rattle.pattern.specs.declared.template.Span.{Span}
use Rattle.pattern.specs.declared.template.Marks.{Marks}
use Rattle.pattern.specs.declared.template.Template.{Template}
use Rattle.pattern.specs.Compiled.{Marked, MarkedStep, HasStep, Added, AddsLast, TemplateOf, DecidesWords}
use Rattle.pattern.specs.Nodes.{lengthened, repeat_last, join_last, trees, last_of}
use Rattle.pattern.proofs.Drafting.{newest}
use Rattle.pattern.proofs.Stepping.{in_either, only_one}

-- what a call for the last part answers
abbrev Answer : Type 0
Answer = Option (Span × Bor (List Node))

-- nodes with a known end
pub added_last : (nodes before : List Node) (n m : Node) (s s' : Marks) (r : Answer) → nodes ≡ before ++ n ∷ [] → n ≡ m → AddsLast (trees (m ∷ reverse before)) s s' r → AddsLast (trees (reverse nodes)) s s' r
added_last nodes before n m s s' r split is h = subst (λ ns. AddsLast (trees ns) s s' r) (sym (newest nodes before n m split is)) h

pub adds_name : (k : EventType) (s s' : Marks) → ((a : ℕ) → Marked s'.types a ↔ (Marked s.types a ⊎ (a ≡ code_of k))) → s'.steps ≡ s.steps → Added s s' (name k) (record { start = k; end = k })
adds_name k s s' types same = record {
  starts = refl;
  ends = refl;
  types = λ a. (
    λ m. ⊎_elim inl (λ e. inr (k, here, e)) ((types a).0 m),
    ⊎_elim (λ l. (types a).1 (inl l)) (λ n. (types a).1 (inr (n.2 ∙ ap code_of (sym (only_one n.1))))),
  );
  steps = λ a b. (λ m. inl (subst (λ l. MarkedStep l a b) same m), ⊎_elim (λ l. subst (λ l. MarkedStep l a b) (sym same) l) (λ n. absurd n));
}

-- a plus after the last part, where there is one
pub adds_plus : (ts : List (Tree part)) (s s₁ s₂ : Marks) (p : Span × Bor (List Node)) → AddsLast ts s s₁ (Some p) → ((a b : ℕ) → MarkedStep s₂.steps a b ↔ (MarkedStep s₁.steps a b ⊎ ((a ≡ code_of p.0.end) × (b ≡ code_of p.0.start)))) → s₂.types ≡ s₁.types → AddsLast (repeat_last ts) s s₂ (Some p)
adds_plus [] s s₁ s₂ p h steps same = tt
adds_plus (t ∷ ts) s s₁ s₂ p h steps same =
    let was = h.0 in (
      record {
        starts = was.starts;
        ends = was.ends;
        types = λ a. (λ m. (was.types a).0 (subst (λ l. Marked l a) same m), λ m. subst (λ l. Marked l a) (sym same) ((was.types a).1 m));
        steps = λ a b. (
          λ m. ⊎_elim (λ l. ⊎_elim inl (λ q. inr (inl q)) ((was.steps a b).0 l)) (λ q. inr (inr (q.0 ∙ was.ends, q.1 ∙ was.starts))) ((steps a b).0 m),
          λ m. (steps a b).1 (⊎_elim (λ l. inl ((was.steps a b).1 (inl l))) (⊎_elim (λ q. inl ((was.steps a b).1 (inr q))) (λ q. inr (q.0 ∙ sym was.ends, q.1 ∙ sym was.starts))) m),
        );
      },
      h.1,
    )

-- a way to make one part of two, as far as a template sees it
pub record Joins (f : Tree part → Tree part → Tree part) : Type 0 where
  pub starts : (t u : Tree part) → start_of (f t u) ≡ start_of t
  pub ends : (t u : Tree part) → end_of (f t u) ≡ end_of u
  pub all_names : (t u : Tree part) → names (f t u) ≡ names t ++ names u
  pub all_steps : (t u : Tree part) (a b : ℕ) → Step (f t u) a b ↔ (Step t a b ⊎ (Step u a b ⊎ ((a ≡ end_of t) × (b ≡ start_of u))))

pub paired : Joins (λ t u. seq (two t u))
paired = record { starts = λ t u. refl; ends = λ t u. refl; all_names = λ t u. refl; all_steps = λ t u a b. (λ q. q, λ q. q) }

pub longer : Joins lengthened
longer = record { starts = starts; ends = ends; all_names = all_names; all_steps = all_steps }
  where
    starts : (t u : Tree part) → start_of (lengthened t u) ≡ start_of t
    starts (name k) u = refl
    starts (plus t) u = refl
    starts (seq ts) u = refl

    ends : (t u : Tree part) → end_of (lengthened t u) ≡ end_of u
    ends (name k) u = refl
    ends (plus t) u = refl
    ends (seq ts) u = refl

    all_names : (t u : Tree part) → names (lengthened t u) ≡ names t ++ names u
    all_names (name k) u = refl
    all_names (plus t) u = refl
    all_names (seq ts) u = refl

    all_steps : (t u : Tree part) (a b : ℕ) → Step (lengthened t u) a b ↔ (Step t a b ⊎ (Step u a b ⊎ ((a ≡ end_of t) × (b ≡ start_of u))))
    all_steps (name k) u a b = (λ q. q, λ q. q)
    all_steps (plus t) u a b = (λ q. q, λ q. q)
    all_steps (seq ts) u a b = (λ q. q, λ q. q)

-- one part of the last two, where there are two
module _ (f : Tree part → Tree part → Tree part) where
  pub adds_join : Joins f → (ts : List (Tree part)) (s s₁ s₂ s₃ : Marks) (p q : Span × Bor (List Node)) → AddsLast ts s s₁ (Some p) → AddsLast (trees (reverse p.1.now)) s₁ s₂ (Some q) → ((a b : ℕ) → MarkedStep s₃.steps a b ↔ (MarkedStep s₂.steps a b ⊎ ((a ≡ code_of q.0.end) × (b ≡ code_of p.0.start)))) → s₃.types ≡ s₂.types → AddsLast (join_last f ts) s s₃ (Some (record { start = q.0.start; end = p.0.end }, q.1))
  adds_join joins [] s s₁ s₂ s₃ p q h g steps same = tt
  adds_join joins (u ∷ []) s s₁ s₂ s₃ p q h g steps same = tt
  adds_join joins (u ∷ t ∷ ts) s s₁ s₂ s₃ p q h g steps same =
      let one = h.0 in
      let left = subst (λ us. AddsLast us s₁ s₂ (Some q)) h.1 g in
      let two' = left.0 in (
        record {
          starts = two'.starts ∙ sym (joins.starts t u);
          ends = one.ends ∙ sym (joins.ends t u);
          types = λ a. (
            λ m. ⊎_elim (λ l. ⊎_elim inl (λ n. inr (n.0, subst (In n.0) (sym (joins.all_names t u)) (in_right (names t) n.1), n.2)) ((one.types a).0 l)) (λ n. inr (n.0, subst (In n.0) (sym (joins.all_names t u)) (in_left (names u) n.1), n.2)) ((two'.types a).0 (subst (λ l. Marked l a) same m)),
            λ m. subst (λ l. Marked l a) (sym same) ((two'.types a).1 (⊎_elim (λ l. inl ((one.types a).1 (inl l))) (λ n. ⊎_elim (λ i. inr (n.0, i, n.2)) (λ i. inl ((one.types a).1 (inr (n.0, i, n.2)))) (in_either (names t) (names u) (subst (In n.0) (joins.all_names t u) n.1))) m)),
          );
          steps = λ a b. (
            λ m. ⊎_elim (λ l. ⊎_elim (λ l. ⊎_elim inl (λ q. inr ((joins.all_steps t u a b).1 (inr (inl q)))) ((one.steps a b).0 l)) (λ q. inr ((joins.all_steps t u a b).1 (inl q))) ((two'.steps a b).0 l)) (λ q. inr ((joins.all_steps t u a b).1 (inr (inr (q.0 ∙ two'.ends, q.1 ∙ one.starts))))) ((steps a b).0 m),
            λ m. (steps a b).1 (⊎_elim (λ l. inl ((two'.steps a b).1 (inl ((one.steps a b).1 (inl l))))) (λ q. ⊎_elim (λ p. inl ((two'.steps a b).1 (inr p))) (⊎_elim (λ p. inl ((two'.steps a b).1 (inl ((one.steps a b).1 (inr p))))) (λ p. inr (p.0 ∙ sym two'.ends, p.1 ∙ sym one.starts))) ((joins.all_steps t u a b).0 q)) m),
          );
        },
        left.1,
      )

-- all nodes stand for one part
pub there_is : (ts : List (Tree part)) (s s' : Marks) (r : Answer) → length ts ≡ 1 → AddsLast ts s s' r → is_some r ≡ true
there_is [] s s' r one h = absurd (omega arith)
there_is (t ∷ ts) s s' None one h = absurd h
there_is (t ∷ ts) s s' (Some p) one h = refl

-- from blank marks on, a part's marks are a template's
pub template_from : (ts : List (Tree part)) (s s' : Marks) (p : Span × Bor (List Node)) → length ts ≡ 1 → ((a : ℕ) → Marked s.types a → ⊥) → ((a b : ℕ) → MarkedStep s.steps a b → ⊥) → AddsLast ts s s' (Some p) → TemplateOf (last_of ts) (record { start = p.0.start; end = p.0.end; marks = s' })
template_from [] s s' p one no_types no_steps h = absurd (omega arith)
template_from (t ∷ ts) s s' p one no_types no_steps h =
    let added = h.0 in
    record {
      starts = added.starts;
      ends = added.ends;
      types = λ a. (λ m. ⊎_elim (λ l. absurd (no_types a l)) (λ n. n) ((added.types a).0 m), λ n. (added.types a).1 (inr n));
      steps = λ a b. (λ m. ⊎_elim (λ l. absurd (no_steps a b l)) (λ n. n) ((added.steps a b).0 m), λ n. (added.steps a b).1 (inr n));
    }

-- a path by one set of steps is a path by an equal set
onward_by : (S R : ℕ → ℕ → Type 0) (end : ℕ) → ((a b : ℕ) → S a b → R a b) → (a : ℕ) (w : List ℕ) → Onward S end a w → Onward R end a w
onward_by S R end f a [] p = p
onward_by S R end f a (b ∷ w) p = (f a b p.0, onward_by S R end f b w p.1)

leads_by : (S R : ℕ → ℕ → Type 0) (start start' end end' : ℕ) → start ≡ start' → end ≡ end' → ((a b : ℕ) → S a b → R a b) → (w : List ℕ) → Leads start end S w → Leads start' end' R w
leads_by S R start start' end end' e d f [] p = p
leads_by S R start start' end end' e d f (a ∷ w) p = (p.0 ∙ e, subst (λ n. Onward R n a w) d (onward_by S R end f a w p.1))

pub decides_words : (t : Tree part) (r : Template) → Distinct (names t) → TemplateOf t r → DecidesWords t r
decides_words t r once is w =
    let law = words_are_paths t once w in (
      λ p. leads_by (Step t) (HasStep r) _ _ _ _ (sym is.starts) (sym is.ends) (λ a b q. (is.steps a b).1 q) w (law.0 p),
      λ p. law.1 (leads_by (HasStep r) (Step t) _ _ _ _ is.starts is.ends (λ a b q. (is.steps a b).0 q) w p),
    )
