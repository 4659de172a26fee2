-- A text has one reading.
use Rattle.std.proofs.Common.{◌≡◌, ℕ, suc, ◌+◌, Bool, true, false, cond, ◌&&◌, eqb, leb, List, [], ◌∷◌, ◌++◌, length, sym, refl, ap, ◌∙◌, subst, ⊎_elim, add-one, arith}
use Rattle.std.specs.Str.{bytes_eq}
use Rattle.std.proofs.lemmas.Bool.{leb-true, le-leb, ne_eqb, and_parts, and_from, and_right, cases_Bool}
use Rattle.events.specs.declared.EventType.TheVariants.{Test, Miss, Drop, Back, Batt, Mains, Call, Talk, Done, Visit}
use Rattle.grammar.specs.declared.Symbol.{Symbol}
use Rattle.grammar.specs.declared.Symbol.TheVariants.{Name, Seq, Open, Close, Comma, Plus}
use Rattle.grammar.specs.Grammar.{Begins}
use Rattle.grammar.specs.Limits.{opened}
use Rattle.grammar.specs.Texts.{spelled}
use Rattle.grammar.proofs.Machine.{one_tree_lem}
use Rattle.pattern.specs.declared.refusal.ReadRefusal.{ReadRefusal}
use Rattle.pattern.specs.Refusals.{number_of}
use Rattle.pattern.specs.Reading.{Letter, Letters, OtherFirst, Stretch, at, Cut, end, space, run, single, Fresh, Passes, Stops, byte, word, grammar, depth, repeat, Outcome, accepted, refused, LeadsTo, whole, broken_off, next, stop, Reads, bad_length, by_stretches}

-- No two tokens are spelled alike.

-- the first of some tokens that has these bytes
abbrev found : List Symbol → List ℕ → Symbol
found [] w = Plus
found (x ∷ xs) w = cond (bytes_eq (spelled x) w) x (found xs w)

abbrev token_of : List ℕ → Symbol
token_of = found (Name Test ∷ Name Miss ∷ Name Drop ∷ Name Back ∷ Name Batt ∷ Name Mains ∷ Name Call ∷ Name Talk ∷ Name Done ∷ Name Visit ∷ Seq ∷ Open ∷ Close ∷ Comma ∷ [])

token_spelled : (x : Symbol) → token_of (spelled x) ≡ x
token_spelled (Name Test) = refl
token_spelled (Name Miss) = refl
token_spelled (Name Drop) = refl
token_spelled (Name Back) = refl
token_spelled (Name Batt) = refl
token_spelled (Name Mains) = refl
token_spelled (Name Call) = refl
token_spelled (Name Talk) = refl
token_spelled (Name Done) = refl
token_spelled (Name Visit) = refl
token_spelled Seq = refl
token_spelled Open = refl
token_spelled Close = refl
token_spelled Comma = refl
token_spelled Plus = refl

same_token : {w : List ℕ} (x y : Symbol) → spelled x ≡ w → spelled y ≡ w → x ≡ y
same_token x y e f = sym (token_spelled x) ∙ ap token_of (e ∙ sym f) ∙ token_spelled y

-- The stretches of a text, by going over its bytes.

abbrev letter : ℕ → Bool
letter b = leb 65 b && leb b 90

abbrev letter_first : List ℕ → Bool
letter_first [] = false
letter_first (b ∷ bs) = letter b

is_letter : (b : ℕ) → Letter b → letter b ≡ true
is_letter b h = and_from (leb 65 b) (leb b 90) (le-leb 65 b h.0) (le-leb b 90 h.1)

no_letter : (b : ℕ) → (Letter b → ⊥) → letter b ≡ false
no_letter b h = ⊎_elim (λ e. let both = and_parts (leb 65 b) (leb b 90) e in absurd (h (leb-true 65 b both.0, leb-true b 90 both.1))) (λ e. e) (cases_Bool (letter b))

no_letter_first : (bs : List ℕ) → OtherFirst bs → letter_first bs ≡ false
no_letter_first [] h = refl
no_letter_first (b ∷ bs) h = no_letter b h

-- one more byte, in front of the first stretch
abbrev put_first : ℕ → ℕ → List Stretch → List Stretch
put_first p b [] = []
put_first p b (at q w ∷ ss) = at p (b ∷ w) ∷ ss

abbrev cuts : ℕ → List ℕ → List Stretch
cuts p [] = []
cuts p (b ∷ bs) = cond (eqb b 32) (cuts (suc p) bs) (cond (letter b && letter_first bs) (put_first p b (cuts (suc p) bs)) (at p (b ∷ []) ∷ cuts (suc p) bs))

cuts_alone : (p b : ℕ) (bs : List ℕ) → (b ≡ 32 → ⊥) → (letter b && letter_first bs) ≡ false → cuts p (b ∷ bs) ≡ at p (b ∷ []) ∷ cuts (suc p) bs
cuts_alone p b bs solid e = simp (ne_eqb b 32 solid, e)

cuts_joined : (p b : ℕ) (bs : List ℕ) → Letter b → letter_first bs ≡ true → cuts p (b ∷ bs) ≡ put_first p b (cuts (suc p) bs)
cuts_joined p b bs l e = simp (ne_eqb b 32 (λ s. omega arith), is_letter b l, e)

cuts_run : (p b : ℕ) (w bs : List ℕ) → Letters (b ∷ w) → OtherFirst bs → at p (b ∷ w) ∷ cuts (p + length (b ∷ w)) bs ≡ cuts p (b ∷ (w ++ bs))
cuts_run p b [] bs all other =
    ap (λ n. at p (b ∷ []) ∷ cuts n bs) (add-one p)
    ∙ sym (cuts_alone p b bs (λ s. omega arith) (and_right (letter b) (letter_first bs) (no_letter_first bs other)))
cuts_run p b (c ∷ w) bs all other =
    let on : p + length (b ∷ c ∷ w) ≡ suc p + length (c ∷ w) = omega arith in
    ap (λ n. at p (b ∷ c ∷ w) ∷ cuts n bs) on
    ∙ ap (put_first p b) (cuts_run (suc p) c w bs all.1 other)
    ∙ sym (cuts_joined p b (c ∷ (w ++ bs)) all.0 (is_letter c all.1.0))

cut_is : {p : ℕ} {bs : List ℕ} {ss : List Stretch} → Cut p bs ss → ss ≡ cuts p bs
cut_is end = refl
cut_is (space c) = cut_is c
cut_is (run {p = p} {b = b} {w = w} {bs = bs} all other c) = ap (λ ss. at p (b ∷ w) ∷ ss) (cut_is c) ∙ cuts_run p b w bs all other
cut_is (single {p = p} {b = b} {bs = bs} other solid c) = ap (λ ss. at p (b ∷ []) ∷ ss) (cut_is c) ∙ sym (cuts_alone p b bs solid (simp (no_letter b other)))

-- At one stretch the questions have one answer.

-- what holds of a token that is spelled so holds of each
alike : {w : List ℕ} (P : Symbol → Type 0) (x y : Symbol) → spelled x ≡ w → spelled y ≡ w → P x → P y
alike P x y e f h = subst P (same_token x y e f) h

module _ (xs : List Symbol) where
  begins_too : {w : List ℕ} (x y : Symbol) → spelled x ≡ w → spelled y ≡ w → Begins (xs ++ x ∷ []) → Begins (xs ++ y ∷ [])
  begins_too x y e f h = alike (λ z. Begins (xs ++ z ∷ [])) x y e f h

  same_depth : {w : List ℕ} (x y : Symbol) → spelled x ≡ w → spelled y ≡ w → opened 0 (xs ++ x ∷ []) ≡ opened 0 (xs ++ y ∷ [])
  same_depth x y e f = ap (λ z. opened 0 (xs ++ z ∷ [])) (same_token x y e f)

  passes_stops : {w : List ℕ} {x : Symbol} {r : ReadRefusal} → Passes xs w x → Stops xs w r → ⊥
  passes_stops {x = x} p (byte o u) = u x p.known
  passes_stops {x = x} p (word all u) = u x p.known
  passes_stops {x = x} p (grammar y f n) = n (begins_too x y p.known f p.begins)
  passes_stops {x = x} p (depth y f b d) = omega (arith, same_depth x y p.known f)
  passes_stops {x = x} p (repeat y f b d n) = n (alike (Fresh xs) x y p.known f p.fresh)

  one_refusal : {w : List ℕ} {r s : ReadRefusal} → Stops xs w r → Stops xs w s → r ≡ s
  one_refusal (byte o u) (byte o' u') = refl
  one_refusal (byte o u) (word all u') = absurd (o all.0)
  one_refusal (byte o u) (grammar y f n) = absurd (u y f)
  one_refusal (byte o u) (depth y f b d) = absurd (u y f)
  one_refusal (byte o u) (repeat y f b d n) = absurd (u y f)
  one_refusal (word all u) (byte o u') = absurd (o all.0)
  one_refusal (word all u) (word all' u') = refl
  one_refusal (word all u) (grammar y f n) = absurd (u y f)
  one_refusal (word all u) (depth y f b d) = absurd (u y f)
  one_refusal (word all u) (repeat y f b d n) = absurd (u y f)
  one_refusal (grammar x e n) (byte o u) = absurd (u x e)
  one_refusal (grammar x e n) (word all u) = absurd (u x e)
  one_refusal (grammar x e n) (grammar y f n') = refl
  one_refusal (grammar x e n) (depth y f b d) = absurd (n (begins_too y x f e b))
  one_refusal (grammar x e n) (repeat y f b d o) = absurd (n (begins_too y x f e b))
  one_refusal (depth x e b d) (byte o u) = absurd (u x e)
  one_refusal (depth x e b d) (word all u) = absurd (u x e)
  one_refusal (depth x e b d) (grammar y f n) = absurd (n (begins_too x y e f b))
  one_refusal (depth x e b d) (depth y f b' d') = refl
  one_refusal (depth x e b d) (repeat y f b' d' o) = absurd (omega (arith, same_depth x y e f))
  one_refusal (repeat x e b d n) (byte o u) = absurd (u x e)
  one_refusal (repeat x e b d n) (word all u) = absurd (u x e)
  one_refusal (repeat x e b d n) (grammar y f n') = absurd (n' (begins_too x y e f b))
  one_refusal (repeat x e b d n) (depth y f b' d') = absurd (omega (arith, same_depth x y e f))
  one_refusal (repeat x e b d n) (repeat y f b' d' n') = refl

-- From the first stretch to the outcome.

leads_one : {n : ℕ} {xs : List Symbol} {ss : List Stretch} {o p : Outcome} → LeadsTo n xs ss o → LeadsTo n xs ss p → o ≡ p
leads_one (whole v) (whole w) = ap accepted (one_tree_lem v w)
leads_one (whole {t = t} v) (broken_off never) = absurd (never t v)
leads_one (broken_off never) (whole {t = t} v) = absurd (never t v)
leads_one (broken_off never) (broken_off never') = refl
leads_one {n} {p = o} (next {xs = xs} {ss = ss} x a on) (next y b on') =
    leads_one on (alike (λ z. LeadsTo n (xs ++ z ∷ []) ss o) y x b.known a.known on')
leads_one (next {xs = xs} x a on) (stop b) = absurd (passes_stops xs a b)
leads_one (stop {xs = xs} a) (next y b on) = absurd (passes_stops xs b a)
leads_one (stop {xs = xs} {p = p} a) (stop b) = ap (λ r. refused (number_of r) p) (one_refusal xs a b)

pub one_outcome : (text : List ℕ) (o p : Outcome) → Reads text o → Reads text p → o ≡ p
one_outcome text o p (bad_length wrong) (bad_length wrong') = refl
one_outcome text o p (bad_length wrong) (by_stretches some short cut leads) = absurd (wrong some short)
one_outcome text o p (by_stretches some short cut leads) (bad_length wrong) = absurd (wrong some short)
one_outcome text o p (by_stretches some short cut leads) (by_stretches some' short' cut' leads') =
    leads_one leads (subst (λ ss. LeadsTo (length text) [] ss p) (cut_is cut' ∙ sym (cut_is cut)) leads')
