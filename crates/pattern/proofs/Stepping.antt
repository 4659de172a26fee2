-- The parser follows the token machine: what its lists stand for before and after one token.
use Rattle.std.proofs.Common.{◌≡◌, suc, ◌<◌, ◌≤◌, Bool, true, false, cond, eqb, ltb, ◌⊎◌, List, [], ◌∷◌, ◌++◌, map, length, Ok, Err, sym, refl, ap, ◌∙◌, subst, inl, inr, ⊎_elim, append-nil, arith, length-append}
use lib.ListN.{length-map}
use Rattle.std.proofs.lemmas.Bool.{ltb-true, ltb-false, eqb-true, eqb-false, or_cases, or_parts}
use Rattle.events.specs.declared.EventType.{EventType}
use Rattle.events.specs.Types.{code_of}
use Rattle.grammar.specs.declared.Symbol.{Symbol}
use Rattle.grammar.specs.declared.Symbol.TheVariants.{Name, Seq, Open, Close, Comma, Plus}
use Rattle.grammar.specs.Trees.{part, Tree, name, plus, seq, two, more, In, here, there}
use Rattle.grammar.specs.Grammar.{Begins}
use Rattle.grammar.specs.Limits.{opened, named}
use Rattle.grammar.proofs.Paths.{same_code, in_left, in_right}
use Rattle.grammar.proofs.Derivations.{names_among_append}
use Rattle.grammar.proofs.Machine.{Frame, group, first, second, later, Mode, want, want_open, ended, done, Next, dead, live, going, start, forward, run, run_append, alive, begins, opened_is, advance_in, closed, parted}
use Rattle.pattern.specs.declared.node.Node.{Node}
use Rattle.pattern.specs.declared.node.Node.TheVariants as node
use Rattle.pattern.specs.declared.parser.Bracket.{Bracket}
use Rattle.pattern.specs.declared.parser.Bracket.TheVariants.{Group, First, Second, Later}
use Rattle.pattern.specs.declared.parser.Mode as code
use Rattle.pattern.specs.declared.parser.Mode.TheVariants.{Part, Atom, Repeated}
use Rattle.pattern.specs.declared.parser.Mode.TheVariants as mode
use Rattle.pattern.specs.declared.refusal.ReadRefusal.TheVariants as refusal
use Rattle.pattern.specs.Nodes.{lengthened, repeat_last, join_last, trees}
use Rattle.pattern.specs.Parsing.{View, Verdict, has_name, verdict_at, closes, parts}
use Rattle.pattern.specs.Reading.{Fresh}

abbrev pub bracket : Frame → Bracket
bracket group = Group
bracket first = First
bracket (second t) = Second
bracket (later ts) = Later

abbrev pub mode_of : Mode → code.Mode
mode_of want = mode.Part
mode_of want_open = mode.Seq
mode_of (ended t) = mode.Atom
mode_of (done t) = mode.Repeated

-- the parts that wait in the open brackets, the last first
abbrev pub waiting : List Frame → List (Tree part)
waiting [] = []
waiting (group ∷ fs) = waiting fs
waiting (first ∷ fs) = waiting fs
waiting (second t ∷ fs) = t ∷ waiting fs
waiting (later ts ∷ fs) = seq ts ∷ waiting fs

abbrev pub ready : Mode → List (Tree part) → List (Tree part)
ready want ts = ts
ready want_open ts = ts
ready (ended t) ts = t ∷ ts
ready (done t) ts = t ∷ ts

-- after the tokens xs the machine stands in this mode with these brackets, and the nodes are its parts
pub record Kept (xs : List Symbol) (m : Mode) (fs : List Frame) (ns : List Node) : Type 0 where
  pub reached : run (live start) xs ≡ going m fs
  pub holds : trees ns ≡ ready m (waiting fs)
  pub few : length fs ≤ 16
  pub no_more : length ns ≤ length xs
  pub seen : (k : EventType) → has_name k ns ≡ true → In k (named xs)
  pub unseen : (k : EventType) → has_name k ns ≡ false → In k (named xs) → ⊥

-- the parser after one token more
pub record Gone (xs : List Symbol) (x : Symbol) (v : View) : Type 0 where
  pub now_mode : Mode
  pub now_frames : List Frame
  pub same_mode : v.mode ≡ mode_of now_mode
  pub same_brackets : v.brackets ≡ map bracket now_frames
  pub kept : Kept (xs ++ x ∷ []) now_mode now_frames v.nodes
  pub fresh : Fresh xs x

-- what a verdict says of the next token
abbrev pub Stepped : List Symbol → Symbol → Verdict → Type 0
Stepped xs x (Ok v) = Gone xs x v
Stepped xs x (Err refusal.Length) = ⊥
Stepped xs x (Err refusal.Byte) = ⊥
Stepped xs x (Err refusal.Word) = ⊥
Stepped xs x (Err refusal.Grammar) = Begins (xs ++ x ∷ []) → ⊥
Stepped xs x (Err refusal.Depth) = Begins (xs ++ x ∷ []) × (16 < opened 0 (xs ++ x ∷ []))
Stepped xs x (Err refusal.Repeat) = Begins (xs ++ x ∷ []) × (opened 0 (xs ++ x ∷ []) ≤ 16) × (Fresh xs x → ⊥)

-- one of a data type's two constructors
Live : Next → Type 0
Live dead = ⊥
Live (live s) = Unit {0}

module _ (xs : List Symbol) (m : Mode) (fs : List Frame) (ns : List Node) (now : Kept xs m fs ns) where
  goes : (x : Symbol) (n : Next) → advance_in m fs x ≡ n → run (live start) (xs ++ x ∷ []) ≡ n
  goes x n e = run_append (live start) xs (x ∷ []) ∙ ap (λ s. forward s x) now.reached ∙ e

  ends_here : (x : Symbol) → advance_in m fs x ≡ dead → Begins (xs ++ x ∷ []) → ⊥
  unfolding Live
  ends_here x e b =
      let s = alive (xs ++ x ∷ []) b in
      subst Live (sym s.1 ∙ goes x dead e) tt

  -- a token that is no name leaves the names as they are
  quiet : (x : Symbol) → named (x ∷ []) ≡ [] → named xs ≡ named (xs ++ x ∷ [])
  quiet x e = sym (names_among_append xs (x ∷ []) ∙ ap (λ l. named xs ++ l) e ∙ append-nil (named xs))

  -- a token that is no name, and at most a node that is no name
  silent : (x : Symbol) (m' : Mode) (fs' : List Frame) (ns' : List Node) → named (x ∷ []) ≡ [] → ((k : EventType) → has_name k ns' ≡ has_name k ns) → advance_in m fs x ≡ going m' fs' → trees ns' ≡ ready m' (waiting fs') → length fs' ≤ 16 → length ns' ≤ suc (length ns) → Kept (xs ++ x ∷ []) m' fs' ns'
  silent x m' fs' ns' none same e holds few grown = record {
    reached = goes x (going m' fs') e;
    holds = holds;
    few = few;
    no_more = omega (arith, now.no_more, grown, length-append xs (x ∷ []));
    seen = λ k h. subst (In k) (quiet x none) (now.seen k (sym (same k) ∙ h));
    unseen = λ k h i. now.unseen k (sym (same k) ∙ h) (subst (In k) (sym (quiet x none)) i);
  }

closing : (xs : List Symbol) (m : Mode) (fs : List Frame) (ns : List Node) (now : Kept xs m fs ns) (t : Tree part) → trees ns ≡ t ∷ waiting fs → advance_in m fs Close ≡ closed t fs → Stepped xs Close (closes (map bracket fs) ns)
closing xs m [] ns now t holds e = ends_here xs m [] ns now Close e
closing xs m (group ∷ fs) ns now t holds e = record { now_mode = ended t; now_frames = fs; same_mode = refl; same_brackets = refl; kept = silent xs m (group ∷ fs) ns now Close (ended t) fs ns refl (λ k. refl) e holds (omega (arith, now.few)) (omega arith); fresh = tt }
closing xs m (first ∷ fs) ns now t holds e = ends_here xs m (first ∷ fs) ns now Close e
closing xs m (second u ∷ fs) ns now t holds e = record { now_mode = ended (seq (two u t)); now_frames = fs; same_mode = refl; same_brackets = refl; kept = silent xs m (second u ∷ fs) ns now Close (ended (seq (two u t))) fs (node.Pair ∷ ns) refl (λ k. refl) e (ap (join_last (λ a b. seq (two a b))) holds) (omega (arith, now.few)) (omega arith); fresh = tt }
closing xs m (later us ∷ fs) ns now t holds e = record { now_mode = ended (seq (more us t)); now_frames = fs; same_mode = refl; same_brackets = refl; kept = silent xs m (later us ∷ fs) ns now Close (ended (seq (more us t))) fs (node.More ∷ ns) refl (λ k. refl) e (ap (join_last lengthened) holds) (omega (arith, now.few)) (omega arith); fresh = tt }

parting : (xs : List Symbol) (m : Mode) (fs : List Frame) (ns : List Node) (now : Kept xs m fs ns) (t : Tree part) → trees ns ≡ t ∷ waiting fs → advance_in m fs Comma ≡ parted t fs → Stepped xs Comma (parts (map bracket fs) ns)
parting xs m [] ns now t holds e = ends_here xs m [] ns now Comma e
parting xs m (group ∷ fs) ns now t holds e = ends_here xs m (group ∷ fs) ns now Comma e
parting xs m (first ∷ fs) ns now t holds e = record { now_mode = want; now_frames = second t ∷ fs; same_mode = refl; same_brackets = refl; kept = silent xs m (first ∷ fs) ns now Comma want (second t ∷ fs) ns refl (λ k. refl) e holds now.few (omega arith); fresh = tt }
parting xs m (second u ∷ fs) ns now t holds e = record { now_mode = want; now_frames = later (two u t) ∷ fs; same_mode = refl; same_brackets = refl; kept = silent xs m (second u ∷ fs) ns now Comma want (later (two u t) ∷ fs) (node.Pair ∷ ns) refl (λ k. refl) e (ap (join_last (λ a b. seq (two a b))) holds) now.few (omega arith); fresh = tt }
parting xs m (later us ∷ fs) ns now t holds e = record { now_mode = want; now_frames = later (more us t) ∷ fs; same_mode = refl; same_brackets = refl; kept = silent xs m (later us ∷ fs) ns now Comma want (later (more us t) ∷ fs) (node.More ∷ ns) refl (λ k. refl) e (ap (join_last lengthened) holds) now.few (omega arith); fresh = tt }

pub in_either : {X : Type 0} {x : X} (xs ys : List X) → In x (xs ++ ys) → In x xs ⊎ In x ys
in_either [] ys i = inr i
in_either (x ∷ xs) ys here = inl here
in_either (x ∷ xs) ys (there i) = ⊎_elim (λ l. inl (there l)) (λ r. inr r) (in_either xs ys i)

pub only_one : {X : Type 0} {x y : X} → In x (y ∷ []) → y ≡ x
only_one here = refl
only_one (there i) = elim i [ ]

module _ (xs : List Symbol) (fs : List Frame) (ns : List Node) where
  opening : (m : Mode) (f : Frame) (now : Kept xs m fs ns) (b : Bool) → ltb (length (map bracket fs)) 16 ≡ b → waiting (f ∷ fs) ≡ waiting fs → trees ns ≡ waiting fs → advance_in m fs Open ≡ going want (f ∷ fs) → Stepped xs Open (cond b (Ok (record { mode = mode.Part; brackets = bracket f ∷ map bracket fs; nodes = ns })) (Err refusal.Depth))
  opening m f now true test same holds e = record { now_mode = want; now_frames = f ∷ fs; same_mode = refl; same_brackets = refl; kept = silent xs m fs ns now Open want (f ∷ fs) ns refl (λ k. refl) e (holds ∙ sym same) (omega (arith, ltb-true _ _ test, length-map fs bracket)) (omega arith); fresh = tt }
  opening m f now false test same holds e =
      let on = goes xs m fs ns now Open (going want (f ∷ fs)) e in
      (begins (xs ++ Open ∷ []) on, omega (arith, ltb-false _ _ test, length-map fs bracket, opened_is (xs ++ Open ∷ []) on))

  naming : (k : EventType) (now : Kept xs want fs ns) (b : Bool) → has_name k ns ≡ b → Stepped xs (Name k) (cond b (Err refusal.Repeat) (Ok (record { mode = mode.Atom; brackets = map bracket fs; nodes = node.Name k ∷ ns })))
  naming k now true test =
      let on = goes xs want fs ns now (Name k) (going (ended (name k)) fs) refl in
      (begins (xs ++ Name k ∷ []) on, omega (arith, now.few, opened_is (xs ++ Name k ∷ []) on), λ fresh. fresh (now.seen k test))
  naming k now false test =
      let all = names_among_append xs (Name k ∷ []) in
      record {
        now_mode = ended (name k);
        now_frames = fs;
        same_mode = refl;
        same_brackets = refl;
        fresh = now.unseen k test;
        kept = record {
          reached = goes xs want fs ns now (Name k) (going (ended (name k)) fs) refl;
          holds = ap (λ ts. name k ∷ ts) now.holds;
          few = now.few;
          no_more = omega (arith, now.no_more, length-append xs (Name k ∷ []));
          seen = λ j h. subst (In j) (sym all) (⊎_elim (λ e. in_right (named xs) (subst (λ i. In j (i ∷ [])) (same_code j k (sym (eqb-true (code_of k) (code_of j) e))) here)) (λ e. in_left (k ∷ []) (now.seen j e)) (or_cases (eqb (code_of k) (code_of j)) (has_name j ns) h));
          unseen = λ j h i.
              let both = or_parts (eqb (code_of k) (code_of j)) (has_name j ns) h in
              ⊎_elim (now.unseen j both.1) (λ l. eqb-false (code_of k) (code_of j) both.0 (ap code_of (only_one l))) (in_either (named xs) (k ∷ []) (subst (In j) all i));
        };
      }

-- the verdict on the next token is that of the questions
pub stepped : (xs : List Symbol) (m : Mode) (fs : List Frame) (ns : List Node) → Kept xs m fs ns → (x : Symbol) → Stepped xs x (verdict_at (mode_of m) (map bracket fs) ns x)
stepped xs want fs ns now (Name k) = naming xs fs ns k now (has_name k ns) refl
stepped xs want fs ns now Seq = record { now_mode = want_open; now_frames = fs; same_mode = refl; same_brackets = refl; kept = silent xs want fs ns now Seq want_open fs ns refl (λ k. refl) refl now.holds now.few (omega arith); fresh = tt }
stepped xs want fs ns now Open = opening xs fs ns want group now (ltb (length (map bracket fs)) 16) refl refl now.holds refl
stepped xs want fs ns now Close = ends_here xs want fs ns now Close refl
stepped xs want fs ns now Comma = ends_here xs want fs ns now Comma refl
stepped xs want fs ns now Plus = ends_here xs want fs ns now Plus refl
stepped xs want_open fs ns now (Name k) = ends_here xs want_open fs ns now (Name k) refl
stepped xs want_open fs ns now Seq = ends_here xs want_open fs ns now Seq refl
stepped xs want_open fs ns now Open = opening xs fs ns want_open first now (ltb (length (map bracket fs)) 16) refl refl now.holds refl
stepped xs want_open fs ns now Close = ends_here xs want_open fs ns now Close refl
stepped xs want_open fs ns now Comma = ends_here xs want_open fs ns now Comma refl
stepped xs want_open fs ns now Plus = ends_here xs want_open fs ns now Plus refl
stepped xs (ended t) fs ns now (Name k) = ends_here xs (ended t) fs ns now (Name k) refl
stepped xs (ended t) fs ns now Seq = ends_here xs (ended t) fs ns now Seq refl
stepped xs (ended t) fs ns now Open = ends_here xs (ended t) fs ns now Open refl
stepped xs (ended t) fs ns now Close = closing xs (ended t) fs ns now t now.holds refl
stepped xs (ended t) fs ns now Comma = parting xs (ended t) fs ns now t now.holds refl
stepped xs (ended t) fs ns now Plus = record { now_mode = done (plus t); now_frames = fs; same_mode = refl; same_brackets = refl; kept = silent xs (ended t) fs ns now Plus (done (plus t)) fs (node.Plus ∷ ns) refl (λ k. refl) refl (ap repeat_last now.holds) now.few (omega arith); fresh = tt }
stepped xs (done t) fs ns now (Name k) = ends_here xs (done t) fs ns now (Name k) refl
stepped xs (done t) fs ns now Seq = ends_here xs (done t) fs ns now Seq refl
stepped xs (done t) fs ns now Open = ends_here xs (done t) fs ns now Open refl
stepped xs (done t) fs ns now Close = closing xs (done t) fs ns now t now.holds refl
stepped xs (done t) fs ns now Comma = parting xs (done t) fs ns now t now.holds refl
stepped xs (done t) fs ns now Plus = ends_here xs (done t) fs ns now Plus refl
