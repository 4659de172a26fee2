-- How a text's first stretch is cut off.
use Rattle.std.proofs.Common.{◌≡◌, ℕ, zero, suc, Bool, true, false, ◌==◌, leb, take, ◌+◌, ◌-◌, ◌<◌, ◌≤◌, ◌⊎◌, List, [], ◌∷◌, ◌++◌, length, get_or, drop, sym, ap, ◌∙◌, subst, inl, inr, ⊎_elim, add-one, arith, length-drop, take-append-drop}
use Rattle.std.specs.List.{between}
use Rattle.std.proofs.lemmas.List.{drop_more, drop-drop, length-take-le, drop_all}
use Rattle.std.proofs.lemmas.List.Edits.{between_more, length-between}
use Rattle.std.specs.Char.{is_ascii_uppercase}
use Rattle.std.specs.List.{prefix_len}
use Rattle.std.proofs.lemmas.List.{get_or-drop}
use Rattle.std.proofs.lemmas.List.Sums.{prefix_len-le-length, prefix_len_passes, prefix_len_stops}
use Rattle.std.proofs.lemmas.Bool.{cases_lt, cases_eq, eqb-true, eqb-false, leb-true, le-leb, and_parts, and_from, true≢false}
use Rattle.events.specs.declared.EventType.{EventType}
use Rattle.events.specs.declared.EventType.TheVariants.{Test, Miss, Drop, Back, Batt, Mains, Call, Talk, Done, Visit}
use Rattle.events.specs.Types.{name_of}
use Rattle.grammar.specs.declared.Symbol.TheVariants.{Name, Seq, Open, Close, Comma, Plus}
use Rattle.pattern.specs.Reading.{Letter, Letters, OtherFirst, Stretch, at, Cut, end, space, run, single, Unknown}
use Rattle.pattern.specs.Tokens.{FirstIs}

-- the text from i on is its byte at i and the text from i + 1 on
at_byte : (P : List ℕ → Type 0) (text : List ℕ) (i : ℕ) → i < length text → P (get_or text i 0 ∷ drop (suc i) text) → P (drop i text)
at_byte P text i h p = subst P (sym (drop_more text i 0 h)) (subst (λ n. P (get_or text i 0 ∷ drop n text)) (sym (add-one i)) p)

pub cut_space : (text : List ℕ) (i : ℕ) → i < length text → get_or text i 0 ≡ 32 → (ss : List Stretch) → Cut (i + 1) (drop (i + 1) text) ss → Cut i (drop i text) ss
cut_space text i h is ss c =
    at_byte (λ bs. Cut i bs ss) text i h
    (subst (λ b. Cut i (b ∷ drop (suc i) text) ss) (sym is) (space (subst (λ n. Cut n (drop n text) ss) (add-one i) c)))

pub cut_single : (text : List ℕ) (i : ℕ) → i < length text → (Letter (get_or text i 0) → ⊥) → (get_or text i 0 ≡ 32 → ⊥) → (ss : List Stretch) → Cut (suc i) (drop (suc i) text) ss → Cut i (drop i text) (at i (get_or text i 0 ∷ []) ∷ ss)
cut_single text i h other solid ss c = at_byte (λ bs. Cut i bs (at i (get_or text i 0 ∷ []) ∷ ss)) text i h (single other solid c)

pub letters_push : (bs : List ℕ) (b : ℕ) → Letters bs → Letter b → Letters (bs ++ b ∷ [])
letters_push [] b all one = (one, tt)
letters_push (a ∷ bs) b all one = (all.0, letters_push bs b all.1 one)

pub letters_more : (text : List ℕ) (i j : ℕ) → i ≤ j → j < length text → Letters (between i j text) → Letter (get_or text j 0) → Letters (between i (j + 1) text)
letters_more text i j h k all one = subst Letters (sym (between_more text i j 0 h k)) (letters_push (between i j text) (get_or text j 0) all one)

pub stops_here : (text : List ℕ) (i : ℕ) → i < length text → (Letter (get_or text i 0) → ⊥) → OtherFirst (drop i text)
stops_here text i h other = at_byte OtherFirst text i h other

pub stops_end : (text : List ℕ) (i : ℕ) → length text ≤ i → OtherFirst (drop i text)
stops_end text i h = subst OtherFirst (sym (drop_all i text h)) tt

pub run_of : (p : ℕ) (w bs : List ℕ) (ss : List Stretch) → 0 < length w → Letters w → OtherFirst bs → Cut (p + length w) bs ss → Cut p (w ++ bs) (at p w ∷ ss)
run_of p [] bs ss some all other c = absurd (omega arith)
run_of p (b ∷ w) bs ss some all other c = run all other c

pub cut_run : (text : List ℕ) (i j : ℕ) → i < j → j ≤ length text → Letters (between i j text) → OtherFirst (drop j text) → (ss : List Stretch) → Cut j (drop j text) ss → Cut i (drop i text) (at i (between i j text) ∷ ss)
cut_run text i j h k all other ss c =
    let long : length (between i j text) ≡ j - i = length-take-le (j - i) (drop i text) (omega (arith, length-drop i text)) in
    let behind : drop (j - i) (drop i text) ≡ drop j text = drop-drop (j - i) i text ∙ ap (λ n. drop n text) (omega arith) in
    let whole : between i j text ++ drop j text ≡ drop i text = ap (λ l. between i j text ++ l) (sym behind) ∙ take-append-drop (j - i) (drop i text) in
    subst (λ bs. Cut i bs (at i (between i j text) ∷ ss)) whole
    (run_of i (between i j text) (drop j text) ss (omega (arith, long)) all other (subst (λ n. Cut n (drop j text) ss) (omega (arith, long)) c))

-- a letter before what is no letter
alone : (p b : ℕ) (bs : List ℕ) (ss : List Stretch) → Letter b → OtherFirst bs → Cut (suc p) bs ss → (ts : List Stretch) × Cut p (b ∷ bs) ts
alone p b bs ss l other c = (at p (b ∷ []) ∷ ss, run {w = []} (l, tt) other (subst (λ n. Cut n bs ss) (omega arith) c))

-- a letter before any text
one_letter : (p b : ℕ) {bs : List ℕ} {ss : List Stretch} → Letter b → Cut (suc p) bs ss → (ts : List Stretch) × Cut p (b ∷ bs) ts
one_letter p b l end = alone p b [] [] l tt end
one_letter p b l (space {bs = bs} {ss = ss} c) = alone p b (32 ∷ bs) ss l (λ h. omega arith) (space c)
one_letter p b l (run {b = a} {w = w} {bs = bs} {ss = ss} all other c) = (at p (b ∷ a ∷ w) ∷ ss, run {w = a ∷ w} (l, all) other (subst (λ n. Cut n bs ss) (omega arith) c))
one_letter p b l (single {b = a} {bs = bs} {ss = ss} other solid c) = alone p b (a ∷ bs) (at (suc p) (a ∷ []) ∷ ss) l other (single other solid c)

letter_or_not : (b : ℕ) → Letter b ⊎ (Letter b → ⊥)
letter_or_not b = ⊎_elim (λ lt. inr (λ l. omega arith)) (λ ge. ⊎_elim (λ lt. inr (λ l. omega arith)) (λ le. inl (ge, le)) (cases_lt 90 b)) (cases_lt b 65)

pub cut_all : (p : ℕ) (bs : List ℕ) → (ss : List Stretch) × Cut p bs ss
cut_all p [] = ([], end)
cut_all p (b ∷ bs) =
    let rest = cut_all (suc p) bs in
    ⊎_elim (λ l. one_letter p b l rest.1)
    (λ other. ⊎_elim (λ e. (rest.0, subst (λ x. Cut p (x ∷ bs) rest.0) (sym e) (space rest.1))) (λ solid. (at p (b ∷ []) ∷ rest.0, single other solid rest.1)) (cases_eq b 32))
    (letter_or_not b)

pub none_left : (text : List ℕ) (i : ℕ) → length text ≤ i → Cut i (drop i text) []
none_left text i h = subst (λ bs. Cut i bs []) (sym (drop_all i text h)) end

pub word_first : (text : List ℕ) (i j : ℕ) → i < j → j ≤ length text → Letters (between i j text) → OtherFirst (drop j text) → FirstIs text i i (between i j text) j
word_first text i j h k all other = record { inside = omega arith; ahead = omega arith; on = h; ends = omega (arith, length-between text i j k); within = k; rest = cut_all j (drop j text); cut = cut_run text i j h k all other }

pub single_first : (text : List ℕ) (i : ℕ) → i < length text → (Letter (get_or text i 0) → ⊥) → (get_or text i 0 ≡ 32 → ⊥) → FirstIs text i i (get_or text i 0 ∷ []) (suc i)
single_first text i h other solid = record { inside = h; ahead = omega arith; on = omega arith; ends = omega arith; within = h; rest = cut_all (suc i) (drop (suc i) text); cut = cut_single text i h other solid }

pub sign_first : (text : List ℕ) (i b : ℕ) → i < length text → get_or text i 0 ≡ b → (Letter b → ⊥) → (get_or text i 0 ≡ 32 → ⊥) → FirstIs text i i (b ∷ []) (i + 1)
sign_first text i b h is other solid =
    subst (FirstIs text i i (b ∷ [])) (sym (add-one i))
    (subst (λ x. FirstIs text i i (x ∷ []) (suc i)) is (single_first text i h (λ l. other (subst Letter is l)) solid))

pub name_long : (k : EventType) → 4 ≤ length (name_of k)
name_long Test = omega arith
name_long Miss = omega arith
name_long Drop = omega arith
name_long Back = omega arith
name_long Batt = omega arith
name_long Mains = omega arith
name_long Call = omega arith
name_long Talk = omega arith
name_long Done = omega arith
name_long Visit = omega arith

pub unknown_single : (b : ℕ) → (b ≡ 40 → ⊥) → (b ≡ 41 → ⊥) → (b ≡ 44 → ⊥) → (b ≡ 43 → ⊥) → Unknown (b ∷ [])
unknown_single b o c m p (Name k) e = omega (arith, name_long k, ap length e)
unknown_single b o c m p Seq e = omega (arith, ap length e)
unknown_single b o c m p Open e = o (sym (ap (λ l. get_or l 0 0) e))
unknown_single b o c m p Close e = c (sym (ap (λ l. get_or l 0 0) e))
unknown_single b o c m p Comma e = m (sym (ap (λ l. get_or l 0 0) e))
unknown_single b o c m p Plus e = p (sym (ap (λ l. get_or l 0 0) e))

-- a run that begins at a letter has it
pub run_some : (text : List ℕ) (i j : ℕ) → i < length text → Letter (get_or text i 0) → i ≤ j → OtherFirst (drop j text) → i < j
run_some text i j h one k other =
    ⊎_elim (λ lt. lt) (λ ge. let same : j ≡ i = omega arith in absurd (subst OtherFirst (drop_more text i 0 h) (subst (λ n. OtherFirst (drop n text)) same other) one)) (cases_lt i j)

-- A count of the bytes behind a place that are alike.

upper_letter : (b : ℕ) → is_ascii_uppercase b ≡ true → Letter b
upper_letter b e = let both = and_parts (leb 65 b) (leb b 90) e in (leb-true 65 b both.0, leb-true b 90 both.1)

other_upper : (b : ℕ) → is_ascii_uppercase b ≡ false → Letter b → ⊥
other_upper b e l = true≢false (sym (and_from (leb 65 b) (leb b 90) (le-leb 65 b l.0) (le-leb b 90 l.1)) ∙ e)

module _ (p : ℕ → Bool) (text : List ℕ) (i n : ℕ) (within : i ≤ length text) (counted : n ≡ prefix_len p (drop i text)) where
  pub count_within : i + n ≤ length text
  count_within = omega (arith, prefix_len-le-length p (drop i text), length-drop i text)

  count_passes : (j : ℕ) → j < n → p (get_or text (i + j) 0) ≡ true
  count_passes j h = ap p (sym (get_or-drop i text j 0)) ∙ prefix_len_passes p (drop i text) j 0 (omega arith)

  count_stops : i + n < length text → p (get_or text (i + n) 0) ≡ false
  count_stops h = ap p (sym (get_or-drop i text n 0) ∙ ap (λ k. get_or (drop i text) k 0) counted) ∙ prefix_len_stops p (drop i text) 0 (omega (arith, length-drop i text))

spaces_cut : (text : List ℕ) (i k : ℕ) → i + k ≤ length text → ((j : ℕ) → j < k → get_or text (i + j) 0 ≡ 32) → (ss : List Stretch) → Cut (i + k) (drop (i + k) text) ss → Cut i (drop i text) ss
spaces_cut text i zero h are ss c = subst (λ n. Cut n (drop n text) ss) (omega arith) c
spaces_cut text i (suc k) h are ss c =
    spaces_cut text i k (omega arith) (λ j l. are j (omega arith)) ss
    (cut_space text (i + k) (omega arith) (are k (omega arith)) ss (subst (λ n. Cut n (drop n text) ss) (omega arith) c))

letters_within : (text : List ℕ) (i k : ℕ) → i + k ≤ length text → ((j : ℕ) → j < k → Letter (get_or text (i + j) 0)) → Letters (between i (i + k) text)
letters_within text i zero h are = let none : 0 ≡ i + 0 - i = omega arith in subst (λ n. Letters (take n (drop i text))) none tt
letters_within text i (suc k) h are =
    subst (λ n. Letters (between i n text)) (omega arith)
    (letters_more text i (i + k) (omega arith) (omega arith) (letters_within text i k (omega arith) (λ j l. are j (omega arith))) (are k (omega arith)))

module _ (text : List ℕ) (i n : ℕ) (within : i ≤ length text) where
  pub spaces_counted : n ≡ prefix_len (λ b. b == 32) (drop i text) → (ss : List Stretch) → Cut (i + n) (drop (i + n) text) ss → Cut i (drop i text) ss
  spaces_counted counted = spaces_cut text i n (count_within (λ b. b == 32) text i n within counted) (λ j h. eqb-true _ 32 (count_passes (λ b. b == 32) text i n within counted j h))

  pub solid_behind : n ≡ prefix_len (λ b. b == 32) (drop i text) → i + n < length text → get_or text (i + n) 0 ≡ 32 → ⊥
  solid_behind counted h e = eqb-false _ 32 (count_stops (λ b. b == 32) text i n within counted h) e

  pub letters_counted : n ≡ prefix_len is_ascii_uppercase (drop i text) → Letters (between i (i + n) text)
  letters_counted counted = letters_within text i n (count_within is_ascii_uppercase text i n within counted) (λ j h. upper_letter _ (count_passes is_ascii_uppercase text i n within counted j h))

  pub other_behind : n ≡ prefix_len is_ascii_uppercase (drop i text) → OtherFirst (drop (i + n) text)
  other_behind counted =
      ⊎_elim (λ lt. stops_here text (i + n) lt (λ l. other_upper _ (count_stops is_ascii_uppercase text i n within counted lt) l)) (λ ge. stops_end text (i + n) ge) (cases_lt (i + n) (length text))
