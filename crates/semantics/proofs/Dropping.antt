-- Events that no trend has may be dropped: flags for what is kept and flags for all correspond.
use Rattle.std.proofs.Common.{◌≡◌, ℕ, suc, Bool, true, false, cond, List, [], ◌∷◌, map, length, filter, sym, refl, ap, ◌∙◌, subst, ap₂, arith}
use mathlib.Core.List.{map-map}
use Rattle.events.specs.declared.event.Event.{Event}
use Rattle.grammar.specs.Trees.{In, here, there}
use Rattle.grammar.specs.Words.{Word}
use Rattle.pattern.specs.Patterns.{tree}
use Rattle.rules.specs.Rules.{Rule}
use Rattle.weights.specs.Kinds.{Kind}
use Rattle.semantics.specs.declared.setup.Setup.{Setup}
use Rattle.semantics.specs.Theorems.{KeepsRelevant}
use Rattle.semantics.specs.Trends.{chosen, All, Adjacent, Follows, Belongs, Trend, weight, joined, ResultIs}
use Rattle.semantics.proofs.Listings.{listing_along}

-- false put in wherever one is not kept
abbrev spread : List Bool → List Bool → List Bool
spread [] n = []
spread (true ∷ ks) [] = false ∷ spread ks []
spread (true ∷ ks) (b ∷ n) = b ∷ spread ks n
spread (false ∷ ks) n = false ∷ spread ks n

-- m among all and n among those kept choose the same, and each is had from the other
record Same {X : Type 0} (ks : List Bool) (xs : List X) (m n : List Bool) : Type 0 where
  all : length m ≡ length xs
  kept : length n ≡ length (chosen ks xs)
  choose : chosen m xs ≡ chosen n (chosen ks xs)
  fewer : chosen ks m ≡ n
  more : spread ks n ≡ m

module _ {X : Type 0} (x : X) {ks : List Bool} {xs : List X} {m n : List Bool} (h : Same ks xs m n) where
  same_kept : (b : Bool) → Same (true ∷ ks) (x ∷ xs) (b ∷ m) (b ∷ n)
  same_kept b = record {
    all = ap suc h.all;
    kept = ap suc h.kept;
    choose = elim b as (λ b. chosen (b ∷ m) (x ∷ xs) ≡ chosen (b ∷ n) (x ∷ chosen ks xs)) [ true ↦ ap (λ c. x ∷ c) h.choose | false ↦ h.choose ];
    fewer = ap (λ c. b ∷ c) h.fewer;
    more = ap (λ c. b ∷ c) h.more;
  }

  same_dropped : Same (false ∷ ks) (x ∷ xs) (false ∷ m) n
  same_dropped = record { all = ap suc h.all; kept = h.kept; choose = h.choose; fewer = h.fewer; more = ap (λ c. false ∷ c) h.more }

same_none : {X : Type 0} → Same {X = X} [] [] [] []
same_none = record { all = refl; kept = refl; choose = refl; fewer = refl; more = refl }

module _ {X : Type 0} (keep : X → Bool) where
  -- all that is chosen is kept
  from_all : (xs : List X) (m : List Bool) → length m ≡ length xs → All (λ x. keep x ≡ true) (chosen m xs) → Same (map keep xs) xs m (chosen (map keep xs) m)
  from_all [] [] e a = same_none
  from_all [] (b ∷ m) e a = absurd (omega arith)
  from_all (x ∷ xs) [] e a = absurd (omega arith)
  from_all (x ∷ xs) (true ∷ m) e a =
      subst (λ b. Same (b ∷ map keep xs) (x ∷ xs) (true ∷ m) (chosen (b ∷ map keep xs) (true ∷ m))) (sym a.0) (same_kept x (from_all xs m (omega arith) a.1) true)
  from_all (x ∷ xs) (false ∷ m) e a =
      let rest = from_all xs m (omega arith) a in
      elim (keep x) as (λ b. Same (b ∷ map keep xs) (x ∷ xs) (false ∷ m) (chosen (b ∷ map keep xs) (false ∷ m))) [ true ↦ same_kept x rest false | false ↦ same_dropped x rest ]

  from_kept : (xs : List X) (n : List Bool) → length n ≡ length (chosen (map keep xs) xs) → Same (map keep xs) xs (spread (map keep xs) n) n
  from_kept [] [] e = same_none
  from_kept [] (b ∷ n) e = absurd (omega arith)
  from_kept (x ∷ xs) n e = step (keep x) n (from_kept xs) e
    where
      step : (b : Bool) (n : List Bool) → ((n : List Bool) → length n ≡ length (chosen (map keep xs) xs) → Same (map keep xs) xs (spread (map keep xs) n) n)
          → length n ≡ length (chosen (b ∷ map keep xs) (x ∷ xs)) → Same (b ∷ map keep xs) (x ∷ xs) (spread (b ∷ map keep xs) n) n
      step true [] rest e = absurd (omega arith)
      step true (b ∷ n) rest e = same_kept x (rest n (omega arith)) b
      step false n rest e = same_dropped x (rest n e)

  kept_chosen : (xs : List X) → filter keep xs ≡ chosen (map keep xs) xs
  kept_chosen [] = refl
  kept_chosen (x ∷ xs) = elim (keep x) as (λ b. cond b (x ∷ filter keep xs) (filter keep xs) ≡ chosen (b ∷ map keep xs) (x ∷ xs)) [ true ↦ ap (λ c. x ∷ c) (kept_chosen xs) | false ↦ kept_chosen xs ]

map_same : {X Y : Type 0} (f g : X → Y) (xs : List X) → ((x : X) → In x xs → f x ≡ g x) → map f xs ≡ map g xs
map_same f g [] e = refl
map_same f g (x ∷ xs) e = ap₂ (λ y ys. y ∷ ys) (e x here) (map_same f g xs (λ z i. e z (there i)))

module _ {R : Type 0} (rule : Rule R) (s : Setup R) (k g : ℕ) where
  -- flags that choose the same choose a trend too
  trend_same : (ds es : List Event) (m n : List Bool) → length m ≡ length es → chosen n ds ≡ chosen m es → Trend rule s k g ds n → Trend rule s k g es m
  trend_same ds es m n e same t = record {
    for_each = e;
    belong = subst (All (Belongs rule s k g)) same t.belong;
    word = subst (λ c. Word (tree s.pattern) (map (λ e. e.kind) c)) same t.word;
    follow = subst (Adjacent (Follows rule s)) same t.follow;
  }

  module _ (keep : Event → Bool) (keeps : KeepsRelevant rule s k g keep) where
    all_kept : (w : List ℕ) → Word (tree s.pattern) w → (es : List Event) → All (Belongs rule s k g) es → ((a : ℕ) → In a (map (λ e. e.kind) es) → In a w) → All (λ e. keep e ≡ true) es
    all_kept w word [] b sub = tt
    all_kept w word (e ∷ es) b sub = (keeps e b.0 w word (sub e.kind here), all_kept w word es b.1 (λ a i. sub a (there i)))

    module _ (events : List Event) where
      of_trend : (m : List Bool) → Trend rule s k g events m → Same (map keep events) events m (chosen (map keep events) m)
      of_trend m t = from_all keep events m t.for_each (all_kept (map (λ e. e.kind) (chosen m events)) t.word (chosen m events) t.belong (λ a i. i))

      of_kept : (n : List Bool) → Trend rule s k g (chosen (map keep events) events) n → Same (map keep events) events (spread (map keep events) n) n
      of_kept n t = from_kept keep events n t.for_each

      to_kept : (m : List Bool) → Trend rule s k g events m → Trend rule s k g (chosen (map keep events) events) (chosen (map keep events) m)
      to_kept m t = let h = of_trend m t in trend_same events (chosen (map keep events) events) (chosen (map keep events) m) m h.kept h.choose t

      to_all : (n : List Bool) → Trend rule s k g (chosen (map keep events) events) n → Trend rule s k g events (spread (map keep events) n)
      to_all n t = let h = of_kept n t in trend_same (chosen (map keep events) events) events (spread (map keep events) n) n h.all (sym h.choose) t

      -- the result among those kept is the result among all
      pub irrelevant_dropped_lem : {V : Type 0} (kind : Kind V) (v : V) → ResultIs kind rule s k g (filter keep events) v → ResultIs kind rule s k g events v
      irrelevant_dropped_lem kind v given = record {
        listed = let l = r.listed in (map (spread ks) l.0, listing_along (spread ks) (chosen ks) l.0 back there_and l.1);
        all_join = λ ts l.
            r.all_join (map (chosen ks) ts) (listing_along (chosen ks) (spread ks) ts there_and back l)
            ∙ ap (joined kind) (map-map (λ n. weight kind (chosen n (chosen ks events))) (chosen ks) ts
            ∙ map_same (λ m. weight kind (chosen (chosen ks m) (chosen ks events))) (λ m. weight kind (chosen m events)) ts (λ m i. ap (weight kind) (sym (of_trend m (l.only m i)).choose)));
      }
        where
          ks : List Bool
          ks = map keep events

          r : ResultIs kind rule s k g (chosen (map keep events) events) v
          r = subst (λ es. ResultIs kind rule s k g es v) (kept_chosen keep events) given

          there_and : (m : List Bool) → Trend rule s k g events m → Trend rule s k g (chosen (map keep events) events) (chosen (map keep events) m) × (spread (map keep events) (chosen (map keep events) m) ≡ m)
          there_and m t = (to_kept m t, (of_trend m t).more)

          back : (n : List Bool) → Trend rule s k g (chosen (map keep events) events) n → Trend rule s k g events (spread (map keep events) n) × (chosen (map keep events) (spread (map keep events) n) ≡ n)
          back n t = (to_all n t, (of_kept n t).fewer)
