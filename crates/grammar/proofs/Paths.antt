-- A list of types is a word of a pattern exactly when the pattern's template leads along it.
use Rattle.std.proofs.Common.{◌≡◌, ℕ, ◌⊎◌, ◌↔◌, List, [], ◌∷◌, ◌++◌, get_or, sym, refl, ap, ◌∙◌, subst, subst₂, inl, inr, ⊎_elim}
use Rattle.events.specs.Types.{code_of}
use Rattle.events.specs.declared.EventType.{EventType}
use Rattle.events.specs.declared.EventType.TheVariants.{Test, Miss, Drop, Back, Batt, Mains, Call, Talk, Done, Visit}
use Rattle.grammar.specs.Templates.{start_of, end_of, Step, Onward, Leads}
use Rattle.grammar.specs.Trees.{Level, Tree, name, plus, seq, two, more, names, In, here, there, Distinct}
use Rattle.grammar.specs.Words.{Joined, join, Repeated, once, again, Word}

-- the type of a code
abbrev decoded : ℕ → EventType
decoded n = get_or (Test ∷ Miss ∷ Drop ∷ Back ∷ Batt ∷ Mains ∷ Call ∷ Talk ∷ Done ∷ Visit ∷ []) n Test

decoded_code : (k : EventType) → decoded (code_of k) ≡ k
decoded_code Test = refl
decoded_code Miss = refl
decoded_code Drop = refl
decoded_code Back = refl
decoded_code Batt = refl
decoded_code Mains = refl
decoded_code Call = refl
decoded_code Talk = refl
decoded_code Done = refl
decoded_code Visit = refl

-- two types with one code are the same type
pub same_code : (j k : EventType) → code_of j ≡ code_of k → j ≡ k
same_code j k e = sym (decoded_code j) ∙ ap decoded e ∙ decoded_code k

-- lists joined: what stands in them, and that they share nothing if nothing stands twice

pub in_left : {X : Type 0} {x : X} {xs : List X} (ys : List X) → In x xs → In x (xs ++ ys)
in_left ys here = here
in_left ys (there i) = there (in_left ys i)

pub in_right : {X : Type 0} {x : X} (xs : List X) {ys : List X} → In x ys → In x (xs ++ ys)
in_right [] i = i
in_right (x ∷ xs) i = there (in_right xs i)

pub apart : {X : Type 0} {x : X} {xs : List X} (ys : List X) → In x xs → Distinct (xs ++ ys) → In x ys → ⊥
apart ys (here {xs = xs}) d k = d.0 (in_right xs k)
apart ys (there i) d k = apart ys i d.1 k

pub distinct_left : {X : Type 0} (xs ys : List X) → Distinct (xs ++ ys) → Distinct xs
distinct_left [] ys d = tt
distinct_left (x ∷ xs) ys d = (λ i. d.0 (in_left ys i), distinct_left xs ys d.1)

pub distinct_right : {X : Type 0} (xs ys : List X) → Distinct (xs ++ ys) → Distinct ys
distinct_right [] ys d = d
distinct_right (x ∷ xs) ys d = distinct_right xs ys d.1

-- n is the code of a listed type
abbrev pub Coded : List EventType → ℕ → Type 0
Coded ks n = (k : EventType) × In k ks × (n ≡ code_of k)

coded_as : {ks : List EventType} {m n : ℕ} → m ≡ n → Coded ks n → Coded ks m
coded_as e c = (c.0, c.1, e ∙ c.2)

coded_left : (js ks : List EventType) {n : ℕ} → Coded js n → Coded (js ++ ks) n
coded_left js ks c = (c.0, in_left ks c.1, c.2)

coded_right : (js ks : List EventType) {n : ℕ} → Coded ks n → Coded (js ++ ks) n
coded_right js ks c = (c.0, in_right js c.1, c.2)

coded_apart : (js ks : List EventType) {n : ℕ} → Distinct (js ++ ks) → Coded js n → Coded ks n → ⊥
coded_apart js ks d c e =
    let same : c.0 ≡ e.0 = same_code c.0 e.0 (sym c.2 ∙ e.2) in
    apart ks (subst (λ k. In k js) same c.1) d e.1

-- a template speaks only of its pattern's types

pub start_in : {l : Level} (t : Tree l) → Coded (names t) (start_of t)
start_in (name k) = (k, here, refl)
start_in (plus t) = start_in t
start_in (seq ts) = start_in ts
start_in (two t u) = coded_left (names t) (names u) (start_in t)
start_in (more ts u) = coded_left (names ts) (names u) (start_in ts)

pub end_in : {l : Level} (t : Tree l) → Coded (names t) (end_of t)
end_in (name k) = (k, here, refl)
end_in (plus t) = end_in t
end_in (seq ts) = end_in ts
end_in (two t u) = coded_right (names t) (names u) (end_in u)
end_in (more ts u) = coded_right (names ts) (names u) (end_in u)

-- both ends of a step, given those of its parts
crossing_in : {l m : Level} (t : Tree l) (u : Tree m) {a b : ℕ}
    → (Step t a b → Coded (names t) a × Coded (names t) b) → (Step u a b → Coded (names u) a × Coded (names u) b)
    → Step t a b ⊎ (Step u a b ⊎ ((a ≡ end_of t) × (b ≡ start_of u)))
    → Coded (names t ++ names u) a × Coded (names t ++ names u) b
crossing_in t u f g (inl x) = (coded_left (names t) (names u) (f x).0, coded_left (names t) (names u) (f x).1)
crossing_in t u f g (inr (inl x)) = (coded_right (names t) (names u) (g x).0, coded_right (names t) (names u) (g x).1)
crossing_in t u f g (inr (inr x)) =
    (coded_left (names t) (names u) (coded_as x.0 (end_in t)), coded_right (names t) (names u) (coded_as x.1 (start_in u)))

pub step_in : {l : Level} (t : Tree l) (a b : ℕ) → Step t a b → Coded (names t) a × Coded (names t) b
step_in (name k) a b x = elim x [ ]
step_in (plus t) a b (inl x) = step_in t a b x
step_in (plus t) a b (inr x) = (coded_as x.0 (end_in t), coded_as x.1 (start_in t))
step_in (seq ts) a b x = step_in ts a b x
step_in (two t u) a b x = crossing_in t u (step_in t a b) (step_in u a b) x
step_in (more ts u) a b x = crossing_in ts u (step_in ts a b) (step_in u a b) x

-- paths joined, and paths of more steps

abbrev Steps : Type 1
Steps = ℕ → ℕ → Type 0

abbrev Within : Steps → Steps → Type 0
Within R T = (a b : ℕ) → R a b → T a b

onward_within : (R T : Steps) (e : ℕ) → Within R T → (a : ℕ) (w : List ℕ) → Onward R e a w → Onward T e a w
onward_within R T e f a [] o = o
onward_within R T e f a (b ∷ w) o = (f a b o.0, onward_within R T e f b w o.1)

leads_within : (R T : Steps) (s e : ℕ) → Within R T → (w : List ℕ) → Leads s e R w → Leads s e T w
leads_within R T s e f [] h = h
leads_within R T s e f (a ∷ w) h = (h.0, onward_within R T e f a w h.1)

onward_join : (T : Steps) (e s f : ℕ) → T e s → (a : ℕ) (v w : List ℕ) → Onward T e a v → Leads s f T w → Onward T f a (v ++ w)
onward_join T e s f x a [] [] o h = elim h [ ]
onward_join T e s f x a [] (b ∷ w) o h = (subst₂ T (sym o) (sym h.0) x, h.1)
onward_join T e s f x a (b ∷ v) w o h = (o.0, onward_join T e s f x b v w o.1 h)

leads_join : (T : Steps) (r e s f : ℕ) → T e s → (v w : List ℕ) → Leads r e T v → Leads s f T w → Leads r f T (v ++ w)
leads_join T r e s f x [] w g h = elim g [ ]
leads_join T r e s f x (a ∷ v) w g h = (g.0, onward_join T e s f x a v w g.1 h)

-- one more type in front of the first word
longer : {P O Q : List ℕ → Type 0} {w : List ℕ} (b : ℕ) → ((v : List ℕ) → P v → O (b ∷ v)) → Joined P Q w → Joined O Q (b ∷ w)
longer b f (join {v = v} p q) = join {v = b ∷ v} (f v p) q

joined_map : {P O Q S : List ℕ → Type 0} {w : List ℕ} → ((v : List ℕ) → P v → O v) → ((v : List ℕ) → Q v → S v) → Joined P Q w → Joined O S w
joined_map f g (join {v = v} {w = w} p q) = join (f v p) (g w q)

repeated_map : {P O : List ℕ → Type 0} {w : List ℕ} → ((v : List ℕ) → P v → O v) → Repeated P w → Repeated O w
repeated_map f (once {w = w} p) = once (f w p)
repeated_map f (again {v = v} p r) = again (f v p) (repeated_map f r)

-- the template of t leads along the list
abbrev pub Along : {l : Level} → Tree l → List ℕ → Type 0
Along t = Leads (start_of t) (end_of t) (Step t)

-- two patterns in a row: a path of both is a path of the first and then one of the second
module _ {l m : Level} (t : Tree l) (u : Tree m) where
  abbrev Both : Steps
  Both a b = Step t a b ⊎ (Step u a b ⊎ ((a ≡ end_of t) × (b ≡ start_of u)))

  both_along : {w : List ℕ} → Joined (Along t) (Along u) w → Leads (start_of t) (end_of u) Both w
  both_along (join {v = v} {w = w} p q) =
      leads_join Both (start_of t) (end_of t) (start_of u) (end_of u) (inr (inr (refl, refl))) v w
      (leads_within (Step t) Both (start_of t) (end_of t) (λ a b x. inl x) v p)
      (leads_within (Step u) Both (start_of u) (end_of u) (λ a b x. inr (inl x)) w q)

  module _ (d : Distinct (names t ++ names u)) where
    never : {n : ℕ} → Coded (names t) n → Coded (names u) n → ⊥
    never = coded_apart (names t) (names u) d

    -- after the crossing only the second's steps are left
    crossed : (w : List ℕ) (a : ℕ) → Coded (names u) a → Onward Both (end_of u) a w → Onward (Step u) (end_of u) a w
    crossed [] a c o = o
    crossed (b ∷ w) a c o = elim o.0 [
      | inl x ↦ absurd (never (step_in t a b x).0 c)
      | inr (inl x) ↦ (x, crossed w b (step_in u a b x).1 o.1)
      | inr (inr x) ↦ absurd (never (coded_as x.0 (end_in t)) c)
    ]

    -- a path from a type of the first crosses, since it ends in a type of the second
    crosses : (w : List ℕ) (a : ℕ) → Coded (names t) a → Onward Both (end_of u) a w → Joined (Onward (Step t) (end_of t) a) (Along u) w
    crosses [] a c o = absurd (never c (coded_as o (end_in u)))
    crosses (b ∷ w) a c o = elim o.0 [
      | inl x ↦ longer b (λ v h. (x, h)) (crosses w b (step_in t a b x).1 o.1)
      | inr (inl x) ↦ absurd (never c (step_in u a b x).0)
      | inr (inr x) ↦ join {v = []} x.0 (x.1, crossed w b (coded_as x.1 (start_in u)) o.1)
    ]

    both_parted : (w : List ℕ) → Leads (start_of t) (end_of u) Both w → Joined (Along t) (Along u) w
    both_parted [] h = elim h [ ]
    both_parted (a ∷ w) h = longer a (λ v o. (h.0, o)) (crosses w a (coded_as h.0 (start_in t)) h.1)

-- a pattern repeated: a path is cut at each step back to the start
module _ {l : Level} (t : Tree l) where
  abbrev BackToo : Steps
  BackToo a b = Step t a b ⊎ ((a ≡ end_of t) × (b ≡ start_of t))

  rounds_along : {w : List ℕ} → Repeated (Along t) w → Leads (start_of t) (end_of t) BackToo w
  rounds_along (once {w = w} p) = leads_within (Step t) BackToo (start_of t) (end_of t) (λ a b x. inl x) w p
  rounds_along (again {v = v} {w = w} p r) =
      leads_join BackToo (start_of t) (end_of t) (start_of t) (end_of t) (inr (refl, refl)) v w
      (leads_within (Step t) BackToo (start_of t) (end_of t) (λ a b x. inl x) v p) (rounds_along r)

  -- what is left of a round, alone or with more rounds after it
  abbrev Left : ℕ → List ℕ → Type 0
  Left a w = Onward (Step t) (end_of t) a w ⊎ Joined (Onward (Step t) (end_of t) a) (Repeated (Along t)) w

  first_round : {a : ℕ} {w : List ℕ} → a ≡ start_of t → Left a w → Repeated (Along t) (a ∷ w)
  first_round {a} q (inl o) = once (q, o)
  first_round {a} q (inr (join {v = v} o r)) = again {v = a ∷ v} (q, o) r

  rounds_left : (w : List ℕ) (a : ℕ) → Onward BackToo (end_of t) a w → Left a w
  rounds_left [] a o = inl o
  rounds_left (b ∷ w) a o = elim o.0 [
    | inl x ↦ ⊎_elim (λ h. inl (x, h)) (λ j. inr (longer b (λ v h. (x, h)) j)) (rounds_left w b o.1)
    | inr x ↦ inr (join {v = []} x.0 (first_round x.1 (rounds_left w b o.1)))
  ]

  rounds_parted : (w : List ℕ) → Leads (start_of t) (end_of t) BackToo w → Repeated (Along t) w
  rounds_parted [] h = elim h [ ]
  rounds_parted (a ∷ w) h = first_round h.0 (rounds_left w a h.1)

-- the template leads along each word, even if a type stands twice in the pattern
pub word_leads : {l : Level} (t : Tree l) (w : List ℕ) → Word t w → Along t w
word_leads (name k) w h = subst (Leads (code_of k) (code_of k) (λ a b. ⊥)) (sym h) (refl, refl)
word_leads (plus t) w h = rounds_along t (repeated_map (word_leads t) h)
word_leads (seq ts) w h = word_leads ts w h
word_leads (two t u) w h = both_along t u (joined_map (word_leads t) (word_leads u) h)
word_leads (more ts u) w h = both_along ts u (joined_map (word_leads ts) (word_leads u) h)

lone : (k : EventType) (w : List ℕ) → Leads (code_of k) (code_of k) (λ a b. ⊥) w → w ≡ code_of k ∷ []
lone k [] h = elim h [ ]
lone k (a ∷ []) h = ap (λ n. n ∷ []) h.0
lone k (a ∷ (b ∷ w)) h = absurd h.1.0

pub leads_word : {l : Level} (t : Tree l) → Distinct (names t) → (w : List ℕ) → Along t w → Word t w
leads_word (name k) d w h = lone k w h
leads_word (plus t) d w h = repeated_map (leads_word t d) (rounds_parted t w h)
leads_word (seq ts) d w h = leads_word ts d w h
leads_word (two t u) d w h =
    joined_map (leads_word t (distinct_left (names t) (names u) d)) (leads_word u (distinct_right (names t) (names u) d)) (both_parted t u d w h)
leads_word (more ts u) d w h =
    joined_map (leads_word ts (distinct_left (names ts) (names u) d)) (leads_word u (distinct_right (names ts) (names u) d)) (both_parted ts u d w h)

pub words_are_paths : {l : Level} (t : Tree l) → Distinct (names t) → (w : List ℕ) → Word t w ↔ Along t w
words_are_paths t d w = (word_leads t w, leads_word t d w)
