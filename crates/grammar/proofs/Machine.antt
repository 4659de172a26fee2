-- A machine that goes over the tokens from the left. It is live as long as the tokens can begin a pattern, and it
-- ends with a tree exactly when they write that tree.
use Rattle.std.proofs.Common.{◌≡◌, ℕ, pred, ◌⊎◌, List, [], ◌∷◌, ◌++◌, length, Some, None, Option, sym, refl, ap, ◌∙◌, subst, subst₂, inl, inr, append_assoc, append-nil, arith}
use Rattle.events.specs.declared.EventType.TheVariants.{Test}
use Rattle.grammar.specs.declared.Symbol.{Symbol}
use Rattle.grammar.specs.declared.Symbol.TheVariants.{Name, Seq, Open, Close, Comma, Plus}
use Rattle.grammar.specs.Trees.{Level, part, parts, Tree, name, plus, seq, two, more}
use Rattle.grammar.specs.Grammar.{Role, an_atom, a_part, some_parts, Derives, named, bracketed, in_order, plain, repeated, first_two, one_more, Writes, Begins}
use Rattle.grammar.specs.Limits.{opened}
use Rattle.grammar.proofs.Depths.{opened_append}

-- an open bracket; the innermost stands first in a list of them
pub data Frame : Type 0 where
  group : Frame  -- a plain bracket
  first : Frame  -- the bracket of a SEQ, no part ended yet by a comma
  second : Tree part → Frame  -- one part and a comma
  later : Tree parts → Frame  -- two or more parts and a comma

pub data Mode : Type 0 where
  want : Mode  -- an atom must come
  want_open : Mode  -- SEQ's bracket must come
  ended : Tree part → Mode  -- an atom ended, a + may follow
  done : Tree part → Mode  -- a part with its + ended

pub record State : Type 0 where
  pub mode : Mode
  pub frames : List Frame

pub data Next : Type 0 where
  dead : Next
  live : State → Next

-- the machine goes on in this mode with these brackets open
abbrev pub going : Mode → List Frame → Next
going m fs = live (record { mode = m; frames = fs })

abbrev pub start : State
start = record { mode = want; frames = [] }

-- the part ended, a bracket closes
abbrev pub closed : Tree part → List Frame → Next
closed t [] = dead
closed t (group ∷ fs) = going (ended t) fs
closed t (first ∷ fs) = dead
closed t (second u ∷ fs) = going (ended (seq (two u t))) fs
closed t (later us ∷ fs) = going (ended (seq (more us t))) fs

-- the part ended, a comma comes
abbrev pub parted : Tree part → List Frame → Next
parted t [] = dead
parted t (group ∷ fs) = dead
parted t (first ∷ fs) = going want (second t ∷ fs)
parted t (second u ∷ fs) = going want (later (two u t) ∷ fs)
parted t (later us ∷ fs) = going want (later (more us t) ∷ fs)

abbrev pub advance_want : List Frame → Symbol → Next
advance_want fs (Name k) = going (ended (name k)) fs
advance_want fs Seq = going want_open fs
advance_want fs Open = going want (group ∷ fs)
advance_want fs Close = dead
advance_want fs Comma = dead
advance_want fs Plus = dead

abbrev pub advance_want_open : List Frame → Symbol → Next
advance_want_open fs (Name k) = dead
advance_want_open fs Seq = dead
advance_want_open fs Open = going want (first ∷ fs)
advance_want_open fs Close = dead
advance_want_open fs Comma = dead
advance_want_open fs Plus = dead

abbrev pub advance_ended : Tree part → List Frame → Symbol → Next
advance_ended t fs (Name k) = dead
advance_ended t fs Seq = dead
advance_ended t fs Open = dead
advance_ended t fs Close = closed t fs
advance_ended t fs Comma = parted t fs
advance_ended t fs Plus = going (done (plus t)) fs

abbrev pub advance_done : Tree part → List Frame → Symbol → Next
advance_done t fs (Name k) = dead
advance_done t fs Seq = dead
advance_done t fs Open = dead
advance_done t fs Close = closed t fs
advance_done t fs Comma = parted t fs
advance_done t fs Plus = dead

abbrev pub advance_in : Mode → List Frame → Symbol → Next
advance_in want fs x = advance_want fs x
advance_in want_open fs x = advance_want_open fs x
advance_in (ended t) fs x = advance_ended t fs x
advance_in (done t) fs x = advance_done t fs x

abbrev pub advance : State → Symbol → Next
advance s x = advance_in s.mode s.frames x

abbrev pub forward : Next → Symbol → Next
forward dead x = dead
forward (live s) x = advance s x

abbrev pub run : Next → List Symbol → Next
run n [] = n
run n (x ∷ xs) = run (forward n x) xs

abbrev pub result_in : Mode → List Frame → Option (Tree part)
result_in want fs = None
result_in want_open fs = None
result_in (ended t) [] = Some t
result_in (ended t) (f ∷ fs) = None
result_in (done t) [] = Some t
result_in (done t) (f ∷ fs) = None

-- the tree, if no bracket is open and a part ended
abbrev pub result : State → Option (Tree part)
result s = result_in s.mode s.frames

pub run_append : (n : Next) (xs ys : List Symbol) → run n (xs ++ ys) ≡ run (run n xs) ys
run_append n [] ys = refl
run_append n (x ∷ xs) ys = run_append (forward n x) xs ys

pub dead_stays : (xs : List Symbol) → run dead xs ≡ dead
dead_stays [] = refl
dead_stays (x ∷ xs) = dead_stays xs

-- whatever ends live was live before
pub was_live : (n : Next) (ys : List Symbol) (s : State) → run n ys ≡ live s → (r : State) × (n ≡ live r)
was_live dead ys s e = let d = dead_stays ys in let z : ◌≡◌ {A = ℕ} 0 1 = cc in absurd (omega arith)
was_live (live r) ys s e = (r, refl)

-- Every derivation is followed by the machine.

-- over the tokens of a part, whatever stands behind them, the machine comes to this mode
abbrev Comes : Mode → List Symbol → Type 0
Comes m xs = (fs : List Frame) (ys : List Symbol) → run (going want fs) (xs ++ ys) ≡ run (going m fs) ys

abbrev Reads : Role → (l : Level) → Tree l → List Symbol → Type 0
Reads an_atom part t xs = Comes (ended t) xs
Reads an_atom parts ts xs = Unit {0}
Reads a_part part t xs = Comes (ended t) xs ⊎ Comes (done t) xs
Reads a_part parts ts xs = Unit {0}
Reads some_parts part t xs = Unit {0}
Reads some_parts parts ts xs = (fs : List Frame) (ys : List Symbol) → (run (going want (first ∷ fs)) (xs ++ Close ∷ ys) ≡ run (going (ended (seq ts)) fs) ys) × (run (going want (first ∷ fs)) (xs ++ Comma ∷ ys) ≡ run (going want (later ts ∷ fs)) ys)

reads_close : (t : Tree part) (xs : List Symbol) → Reads a_part part t xs → (fs : List Frame) (ys : List Symbol) → run (going want fs) (xs ++ Close ∷ ys) ≡ run (closed t fs) ys
reads_close t xs (inl c) fs ys = c fs (Close ∷ ys)
reads_close t xs (inr c) fs ys = c fs (Close ∷ ys)

reads_comma : (t : Tree part) (xs : List Symbol) → Reads a_part part t xs → (fs : List Frame) (ys : List Symbol) → run (going want fs) (xs ++ Comma ∷ ys) ≡ run (parted t fs) ys
reads_comma t xs (inl c) fs ys = c fs (Comma ∷ ys)
reads_comma t xs (inr c) fs ys = c fs (Comma ∷ ys)

reads : {r : Role} {l : Level} {t : Tree l} {xs : List Symbol} → Derives r l t xs → Reads r l t xs
reads (named k) = λ fs ys. refl
reads (bracketed {t = t} {xs = xs} d) = λ fs ys. rw append_assoc (reads_close t xs (reads d) (group ∷ fs) ys)
reads (in_order d) = λ fs ys. rw append_assoc (reads d fs ys).0
reads (plain d) = inl (reads d)
reads (repeated d) = inr (λ fs ys. rw append_assoc (reads d fs (Plus ∷ ys)))
reads (first_two {t = t} {u = u} {xs = xs} {ys = zs} d e) = λ fs ys. (
  rw append_assoc (reads_comma t xs (reads d) (first ∷ fs) (zs ++ Close ∷ ys) ∙ reads_close u zs (reads e) (second t ∷ fs) ys),
  rw append_assoc (reads_comma t xs (reads d) (first ∷ fs) (zs ++ Comma ∷ ys) ∙ reads_comma u zs (reads e) (second t ∷ fs) ys),
)
reads (one_more {ts = ts} {u = u} {ys = zs} d e) = λ fs ys. (
  rw append_assoc ((reads d fs (zs ++ Close ∷ ys)).1 ∙ reads_close u zs (reads e) (later ts ∷ fs) ys),
  rw append_assoc ((reads d fs (zs ++ Comma ∷ ys)).1 ∙ reads_comma u zs (reads e) (later ts ∷ fs) ys),
)

pub complete : {t : Tree part} {xs : List Symbol} → Writes xs t → (s : State) × (run (live start) xs ≡ live s) × (result s ≡ Some t)
complete {t} {xs} w = go (reads w)
  where
    go : Reads a_part part t xs → (s : State) × (run (live start) xs ≡ live s) × (result s ≡ Some t)
    go (inl c) = (record { mode = ended t; frames = [] }, ap (run (live start)) (sym (append-nil xs)) ∙ c [] [], refl)
    go (inr c) = (record { mode = done t; frames = [] }, ap (run (live start)) (sym (append-nil xs)) ∙ c [] [], refl)

pub alive : (xs : List Symbol) → Begins xs → (s : State) × (run (live start) xs ≡ live s)
alive xs b =
    let c = complete b.2 in
    was_live (run (live start) xs) b.0 c.0 (sym (run_append (live start) xs b.0) ∙ c.1)

pub one_tree_lem : {xs : List Symbol} {t u : Tree part} → Writes xs t → Writes xs u → t ≡ u
one_tree_lem v w =
    let c = complete v in
    let d = complete w in
    let e : live c.0 ≡ live d.0 = sym c.1 ∙ d.1 in
    let f : c.0 ≡ d.0 = cc in
    let g = sym c.2 ∙ ap result f ∙ d.2 in
    cc

-- Every live state stands for tokens that it has gone over.

-- the tokens up to the last open bracket or comma
abbrev Opened : List Frame → List Symbol → Type 0
Opened [] xs = xs ≡ []
Opened (group ∷ fs) xs = (ys : List Symbol) × Opened fs ys × (xs ≡ ys ++ Open ∷ [])
Opened (first ∷ fs) xs = (ys : List Symbol) × Opened fs ys × (xs ≡ ys ++ Seq ∷ (Open ∷ []))
Opened (second t ∷ fs) xs = (ys : List Symbol) × (zs : List Symbol) × Opened fs ys × Derives a_part part t zs × (xs ≡ ys ++ Seq ∷ (Open ∷ (zs ++ Comma ∷ [])))
Opened (later ts ∷ fs) xs = (ys : List Symbol) × (zs : List Symbol) × Opened fs ys × Derives some_parts parts ts zs × (xs ≡ ys ++ Seq ∷ (Open ∷ (zs ++ Comma ∷ [])))

-- the tokens up to the last open bracket or comma, then these
abbrev Then : List Frame → (List Symbol → Type 0) → List Symbol → Type 0
Then fs P xs = (ys : List Symbol) × (zs : List Symbol) × Opened fs ys × P zs × (xs ≡ ys ++ zs)

abbrev Stands : Mode → List Frame → List Symbol → Type 0
Stands want fs xs = Opened fs xs
Stands want_open fs xs = (ys : List Symbol) × Opened fs ys × (xs ≡ ys ++ Seq ∷ [])
Stands (ended t) fs xs = Then fs (Derives an_atom part t) xs
Stands (done t) fs xs = Then fs (Derives a_part part t) xs

abbrev Stood : Next → List Symbol → Type 0
Stood dead xs = Unit {0}
Stood (live s) xs = Stands s.mode s.frames xs

stood_closed : (t : Tree part) (fs : List Frame) (xs : List Symbol) → Stands (done t) fs xs → Stood (closed t fs) (xs ++ Close ∷ [])
stood_closed t [] xs h = tt
stood_closed t (group ∷ fs) xs h = (h.2.0, Open ∷ (h.1 ++ Close ∷ []), h.2.1, bracketed h.3, simp (h.4, h.2.2, append_assoc))
stood_closed t (first ∷ fs) xs h = tt
stood_closed t (second u ∷ fs) xs h =
    (h.2.0, Seq ∷ (Open ∷ ((h.2.1 ++ Comma ∷ h.1) ++ Close ∷ [])), h.2.2, in_order (first_two h.2.3 h.3), simp (h.4, h.2.4, append_assoc))
stood_closed t (later us ∷ fs) xs h =
    (h.2.0, Seq ∷ (Open ∷ ((h.2.1 ++ Comma ∷ h.1) ++ Close ∷ [])), h.2.2, in_order (one_more h.2.3 h.3), simp (h.4, h.2.4, append_assoc))

stood_parted : (t : Tree part) (fs : List Frame) (xs : List Symbol) → Stands (done t) fs xs → Stood (parted t fs) (xs ++ Comma ∷ [])
stood_parted t [] xs h = tt
stood_parted t (group ∷ fs) xs h = tt
stood_parted t (first ∷ fs) xs h = (h.2.0, h.1, h.2.1, h.3, simp (h.4, h.2.2, append_assoc))
stood_parted t (second u ∷ fs) xs h =
    (h.2.0, h.2.1 ++ Comma ∷ h.1, h.2.2, first_two h.2.3 h.3, simp (h.4, h.2.4, append_assoc))
stood_parted t (later us ∷ fs) xs h =
    (h.2.0, h.2.1 ++ Comma ∷ h.1, h.2.2, one_more h.2.3 h.3, simp (h.4, h.2.4, append_assoc))

-- an atom is a part
as_part : (t : Tree part) (fs : List Frame) (xs : List Symbol) → Stands (ended t) fs xs → Stands (done t) fs xs
as_part t fs xs h = (h.0, h.1, h.2, plain h.3, h.4)

stood_advance : (m : Mode) (fs : List Frame) (x : Symbol) (xs : List Symbol) → Stands m fs xs → Stood (advance_in m fs x) (xs ++ x ∷ [])
stood_advance want fs (Name k) xs h = (xs, Name k ∷ [], h, named k, refl)
stood_advance want fs Seq xs h = (xs, h, refl)
stood_advance want fs Open xs h = (xs, h, refl)
stood_advance want fs Close xs h = tt
stood_advance want fs Comma xs h = tt
stood_advance want fs Plus xs h = tt
stood_advance want_open fs (Name k) xs h = tt
stood_advance want_open fs Seq xs h = tt
stood_advance want_open fs Open xs h = (h.0, h.1, simp (h.2, append_assoc))
stood_advance want_open fs Close xs h = tt
stood_advance want_open fs Comma xs h = tt
stood_advance want_open fs Plus xs h = tt
stood_advance (ended t) fs (Name k) xs h = tt
stood_advance (ended t) fs Seq xs h = tt
stood_advance (ended t) fs Open xs h = tt
stood_advance (ended t) fs Close xs h = stood_closed t fs xs (as_part t fs xs h)
stood_advance (ended t) fs Comma xs h = stood_parted t fs xs (as_part t fs xs h)
stood_advance (ended t) fs Plus xs h = (h.0, h.1 ++ Plus ∷ [], h.2, repeated h.3, simp (h.4, append_assoc))
stood_advance (done t) fs (Name k) xs h = tt
stood_advance (done t) fs Seq xs h = tt
stood_advance (done t) fs Open xs h = tt
stood_advance (done t) fs Close xs h = stood_closed t fs xs h
stood_advance (done t) fs Comma xs h = stood_parted t fs xs h
stood_advance (done t) fs Plus xs h = tt

stood_forward : (n : Next) (x : Symbol) (xs : List Symbol) → Stood n xs → Stood (forward n x) (xs ++ x ∷ [])
stood_forward dead x xs h = tt
stood_forward (live s) x xs h = stood_advance s.mode s.frames x xs h

stood_run : (n : Next) (xs ys : List Symbol) → Stood n xs → Stood (run n ys) (xs ++ ys)
stood_run n xs [] h = rw append-nil h
stood_run n xs (x ∷ ys) h = rw append_assoc at (stood_run (forward n x) (xs ++ x ∷ []) ys (stood_forward n x xs h))

done_written : (u t : Tree part) (xs : List Symbol) → Some u ≡ Some t → Stands (done u) [] xs → Writes xs t
done_written u t xs e h =
    let same : u ≡ t = cc in
    let tokens : h.1 ≡ xs = simp (h.4, h.2) in
    subst₂ (λ v ys. Writes ys v) same tokens h.3

no_result : {t : Tree part} {A : Type 0} → None ≡ Some t → A
no_result e = let z : ◌≡◌ {A = ℕ} 0 1 = cc in absurd (omega arith)

stands_written : (m : Mode) (fs : List Frame) (t : Tree part) (xs : List Symbol) → result_in m fs ≡ Some t → Stands m fs xs → Writes xs t
stands_written want fs t xs e h = no_result e
stands_written want_open fs t xs e h = no_result e
stands_written (ended u) [] t xs e h = done_written u t xs e (as_part u [] xs h)
stands_written (ended u) (f ∷ fs) t xs e h = no_result e
stands_written (done u) [] t xs e h = done_written u t xs e h
stands_written (done u) (f ∷ fs) t xs e h = no_result e

pub sound : {s : State} {t : Tree part} {xs : List Symbol} → run (live start) xs ≡ live s → result s ≡ Some t → Writes xs t
sound {s} {t} {xs} e r = stands_written s.mode s.frames t xs r (subst (λ n. Stood n xs) e (stood_run (live start) [] xs refl))

-- Every live state can be ended.

-- tokens that end an atom and close the brackets
abbrev closers : List Frame → List Symbol
closers [] = []
closers (group ∷ fs) = Close ∷ closers fs
closers (first ∷ fs) = Comma ∷ (Name Test ∷ (Close ∷ closers fs))
closers (second u ∷ fs) = Close ∷ closers fs
closers (later us ∷ fs) = Close ∷ closers fs

abbrev endings : Mode → List Frame → List Symbol
endings want fs = Name Test ∷ closers fs
endings want_open fs = Open ∷ (Name Test ∷ (Comma ∷ (Name Test ∷ (Close ∷ closers fs))))
endings (ended t) fs = closers fs
endings (done t) fs = closers fs

abbrev Finished : Next → Type 0
Finished n = (s : State) × (t : Tree part) × (n ≡ live s) × (result s ≡ Some t)

closers_finish : (t : Tree part) (fs : List Frame) → Finished (run (going (ended t) fs) (closers fs))
closers_finish t [] = (record { mode = ended t; frames = [] }, t, refl, refl)
closers_finish t (group ∷ fs) = closers_finish t fs
closers_finish t (first ∷ fs) = closers_finish (seq (two t (name Test))) fs
closers_finish t (second u ∷ fs) = closers_finish (seq (two u t)) fs
closers_finish t (later us ∷ fs) = closers_finish (seq (more us t)) fs

endings_finish : (m : Mode) (fs : List Frame) → Finished (run (going m fs) (endings m fs))
endings_finish want fs = closers_finish (name Test) fs
endings_finish want_open fs = closers_finish (seq (two (name Test) (name Test))) fs
endings_finish (ended t) fs = closers_finish t fs
endings_finish (done t) [] = (record { mode = done t; frames = [] }, t, refl, refl)
endings_finish (done t) (group ∷ fs) = closers_finish t fs
endings_finish (done t) (first ∷ fs) = closers_finish (seq (two t (name Test))) fs
endings_finish (done t) (second u ∷ fs) = closers_finish (seq (two u t)) fs
endings_finish (done t) (later us ∷ fs) = closers_finish (seq (more us t)) fs

pub begins : {s : State} (xs : List Symbol) → run (live start) xs ≡ live s → Begins xs
begins {s} xs e =
    let ys = endings s.mode s.frames in
    let f = endings_finish s.mode s.frames in
    (ys, f.1, sound (run_append (live start) xs ys ∙ ap (λ n. run n ys) e ∙ f.2) f.3)

-- The brackets that are open are the frames.

abbrev Deep : Next → ℕ → Type 0
Deep dead d = Unit {0}
Deep (live s) d = d ≡ length s.frames

deep_closed : (t : Tree part) (fs : List Frame) → Deep (closed t fs) (pred (length fs))
deep_closed t [] = tt
deep_closed t (group ∷ fs) = refl
deep_closed t (first ∷ fs) = tt
deep_closed t (second u ∷ fs) = refl
deep_closed t (later us ∷ fs) = refl

deep_parted : (t : Tree part) (fs : List Frame) → Deep (parted t fs) (length fs)
deep_parted t [] = tt
deep_parted t (group ∷ fs) = tt
deep_parted t (first ∷ fs) = refl
deep_parted t (second u ∷ fs) = refl
deep_parted t (later us ∷ fs) = refl

deep_advance : (m : Mode) (fs : List Frame) (x : Symbol) → Deep (advance_in m fs x) (opened (length fs) (x ∷ []))
deep_advance want fs (Name k) = refl
deep_advance want fs Seq = refl
deep_advance want fs Open = refl
deep_advance want fs Close = tt
deep_advance want fs Comma = tt
deep_advance want fs Plus = tt
deep_advance want_open fs (Name k) = tt
deep_advance want_open fs Seq = tt
deep_advance want_open fs Open = refl
deep_advance want_open fs Close = tt
deep_advance want_open fs Comma = tt
deep_advance want_open fs Plus = tt
deep_advance (ended t) fs (Name k) = tt
deep_advance (ended t) fs Seq = tt
deep_advance (ended t) fs Open = tt
deep_advance (ended t) fs Close = deep_closed t fs
deep_advance (ended t) fs Comma = deep_parted t fs
deep_advance (ended t) fs Plus = refl
deep_advance (done t) fs (Name k) = tt
deep_advance (done t) fs Seq = tt
deep_advance (done t) fs Open = tt
deep_advance (done t) fs Close = deep_closed t fs
deep_advance (done t) fs Comma = deep_parted t fs
deep_advance (done t) fs Plus = tt

deep_forward : (n : Next) (d : ℕ) (x : Symbol) → Deep n d → Deep (forward n x) (opened d (x ∷ []))
deep_forward dead d x h = tt
deep_forward (live s) d x h = rw h (deep_advance s.mode s.frames x)

deep_run : (n : Next) (d : ℕ) (xs : List Symbol) → Deep n d → Deep (run n xs) (opened d xs)
deep_run n d [] h = h
deep_run n d (x ∷ xs) h = subst (Deep (run (forward n x) xs)) (sym (opened_append d (x ∷ []) xs)) (deep_run (forward n x) (opened d (x ∷ [])) xs (deep_forward n d x h))

pub opened_is : {s : State} (xs : List Symbol) → run (live start) xs ≡ live s → opened 0 xs ≡ length s.frames
opened_is xs e = subst (λ n. Deep n (opened 0 xs)) e (deep_run (live start) 0 xs refl)
