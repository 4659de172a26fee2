-- What reading keeps from token to token, and what it comes to at the end.
use Rattle.std.proofs.Common.{◌≡◌, ℕ, ◌≤◌, true, false, List, [], ◌∷◌, ◌++◌, map, length, drop, Some, None, Ok, Err, Option, sym, refl, ap, ◌∙◌, subst, arith, length-append}
use Rattle.std.proofs.lemmas.Bool.{true≢false, false≢true}
use Rattle.grammar.specs.declared.Symbol.{Symbol}
use Rattle.grammar.specs.declared.Symbol.TheVariants.{Open, Close, Comma, Plus}
use Rattle.grammar.specs.Trees.{part, Tree}
use Rattle.grammar.specs.Texts.{spelled}
use Rattle.grammar.proofs.Machine.{Frame, Mode, want, want_open, ended, done, Next, dead, live, going, result, result_in, begins, opened_is, sound, complete}
use Rattle.pattern.specs.declared.node.Node.{Node}
use Rattle.pattern.specs.declared.parser.Parser.{Parser}
use Rattle.pattern.specs.declared.refusal.ReadFault.{ReadFault}
use Rattle.pattern.specs.declared.refusal.ReadRefusal.{ReadRefusal}
use Rattle.pattern.specs.declared.refusal.ReadRefusal.TheVariants as refusal
use Rattle.pattern.specs.declared.token.Placed.{Placed}
use Rattle.pattern.specs.declared.token.Token.{Token}
use Rattle.pattern.specs.declared.token.Token.TheVariants as token
use Rattle.pattern.specs.Nodes.{trees, last_of, tree_of}
use Rattle.pattern.specs.Parsing.{View, view, begun, verdict, verdict_at, is_whole_at, is_whole, Stopped, by_word, by_verdict}
use Rattle.pattern.specs.Reading.{Letters, Stretch, at, Cut, Unknown, Stops, byte, word, grammar, depth, repeat, Outcome, accepted, refused, LeadsTo, whole, broken_off, next, stop, Reads, by_stretches}
use Rattle.pattern.specs.Refusals.{number_of}
use Rattle.pattern.specs.Tokens.{bytes, Worded, FirstIs, IsToken, IsWrong}
use Rattle.pattern.proofs.Holding.{held_length}
use Rattle.pattern.proofs.Stepping.{bracket, mode_of, waiting, ready, Kept, Gone, Stepped, stepped}

-- the parser has taken some tokens of the text, and whatever the rest leads to, the text reads so
pub record Sofar (text : List ℕ) (from : ℕ) (p : Parser) : Type 0 where
  pub so_far : List Symbol
  pub in_mode : Mode
  pub in_frames : List Frame
  pub same_mode : p.mode ≡ mode_of in_mode
  pub same_brackets : (view p).brackets ≡ map bracket in_frames
  pub kept : Kept so_far in_mode in_frames (view p).nodes
  pub small : length so_far ≤ from
  pub rest : (ss : List Stretch) (o : Outcome) → Cut from (drop from text) ss → LeadsTo (length text) so_far ss o → Reads text o

module _ (text : List ℕ) (from : ℕ) (p : Parser) (now : Sofar text from p) where
  -- the verdict of the parser is that of the machine
  judged : (x : Symbol) → Stepped now.so_far x (verdict (view p) x)
  judged x =
      let same : verdict (view p) x ≡ verdict_at (mode_of now.in_mode) (map bracket now.in_frames) (view p).nodes x = λ i. verdict_at (now.same_mode i) (now.same_brackets i) (view p).nodes x in
      subst (Stepped now.so_far x) (sym same) (stepped now.so_far now.in_mode now.in_frames (view p).nodes now.kept x)

  -- the first stretch stops the reading
  stopped : (place : ℕ) (w : List ℕ) (to : ℕ) (r : ReadRefusal) → FirstIs text from place w to → Stops now.so_far w r → Reads text (refused (number_of r) place)
  stopped place w to r f s =
      let behind = f.rest in
      now.rest (at place w ∷ behind.0) (refused (number_of r) place) (f.cut behind.0 behind.1) (stop s)

  pub wrong_byte : (place : ℕ) → IsWrong text from place → Reads text (refused (number_of refusal.Byte) place)
  wrong_byte place h = stopped place _ _ _ h.first (byte h.other h.unknown)

  -- the first token passes
  pub one_more : (q : Parser) (t : Placed) (to : ℕ) (x : Symbol) → IsToken text from t.place t.token to → spelled x ≡ bytes t.token → verdict (view p) x ≡ Ok (view q) → Sofar text to q
  one_more q t to x is e v =
      let gone : Gone now.so_far x (view q) = subst (Stepped now.so_far x) v (judged x) in
      let on = gone.kept.reached in
      record {
        so_far = now.so_far ++ x ∷ [];
        in_mode = gone.now_mode;
        in_frames = gone.now_frames;
        same_mode = gone.same_mode;
        same_brackets = gone.same_brackets;
        kept = gone.kept;
        small = omega (arith, now.small, is.first.ahead, is.first.on, length-append now.so_far (x ∷ []));
        rest = λ ss o c l. now.rest (at t.place (bytes t.token) ∷ ss) o (is.first.cut ss c) (next x (record { known = e; begins = begins (now.so_far ++ x ∷ []) on; shallow = omega (arith, gone.kept.few, opened_is (now.so_far ++ x ∷ []) on); fresh = gone.fresh }) l);
      }

-- each token has a byte at least, and gives a node at most
pub nodes_within : {text : List ℕ} {from : ℕ} {p : Parser} → Sofar text from p → p.nodes.len ≤ from
nodes_within {p = p} now = omega (arith, now.small, now.kept.no_more, held_length p.nodes.items p.nodes.len (omega (arith, p.nodes.sized, p.nodes.within)))

-- an unknown word has letters
lettered : (t : Token) → Worded t → Unknown (bytes t) → Letters (bytes t)
lettered (token.Word w) all u = all
lettered token.Open all u = absurd (u Open refl)
lettered token.Close all u = absurd (u Close refl)
lettered token.Comma all u = absurd (u Comma refl)
lettered token.Plus all u = absurd (u Plus refl)

stops_by : (xs : List Symbol) (w : List ℕ) (x : Symbol) (r : ReadRefusal) → spelled x ≡ w → Stepped xs x (Err r) → Stops xs w r
stops_by xs w x refusal.Length e s = absurd s
stops_by xs w x refusal.Byte e s = absurd s
stops_by xs w x refusal.Word e s = absurd s
stops_by xs w x refusal.Grammar e s = grammar x e s
stops_by xs w x refusal.Depth e s = depth x e s.0 s.1
stops_by xs w x refusal.Repeat e s = repeat x e s.0 s.1 s.2

-- the first token fails a question
pub one_stop : (text : List ℕ) (from : ℕ) (p : Parser) (now : Sofar text from p) (t : Placed) (to : ℕ) (f : ReadFault) → IsToken text from t.place t.token to → Stopped (view p) t f → Reads text (refused (number_of f.refusal) f.place)
one_stop text from p now t to f is (by_word u r q) =
    subst (λ n. Reads text (refused (number_of f.refusal) n)) (sym q)
    (subst (λ k. Reads text (refused (number_of k) t.place)) (sym r) (stopped text from p now t.place (bytes t.token) to refusal.Word is.first (word (lettered t.token is.letters (u is.letters)) (u is.letters))))
one_stop text from p now t to f is (by_verdict x e v q) =
    subst (λ n. Reads text (refused (number_of f.refusal) n)) (sym q)
    (stopped text from p now t.place (bytes t.token) to f.refusal is.first (stops_by now.so_far (bytes t.token) x f.refusal e (subst (Stepped now.so_far x) v (judged text from p now x))))

-- the tree of a live machine
result_of : Next → Option (Tree part)
result_of dead = None
result_of (live s) = result s

-- at the end
whole_tree : (m : Mode) (fs : List Frame) (ns : List Node) → trees ns ≡ ready m (waiting fs) → is_whole_at (mode_of m) (map bracket fs) ≡ true → result_in m fs ≡ Some (tree_of ns)
whole_tree want fs ns holds e = absurd (false≢true e)
whole_tree want_open fs ns holds e = absurd (false≢true e)
whole_tree (ended t) [] ns holds e = ap (λ ts. Some (last_of ts)) (sym holds)
whole_tree (ended t) (f ∷ fs) ns holds e = absurd (false≢true e)
whole_tree (done t) [] ns holds e = ap (λ ts. Some (last_of ts)) (sym holds)
whole_tree (done t) (f ∷ fs) ns holds e = absurd (false≢true e)

whole_one : (m : Mode) (fs : List Frame) → is_whole_at (mode_of m) (map bracket fs) ≡ true → length (ready m (waiting fs)) ≡ 1
whole_one want fs e = absurd (false≢true e)
whole_one want_open fs e = absurd (false≢true e)
whole_one (ended t) [] e = refl
whole_one (ended t) (f ∷ fs) e = absurd (false≢true e)
whole_one (done t) [] e = refl
whole_one (done t) (f ∷ fs) e = absurd (false≢true e)

not_whole : (m : Mode) (fs : List Frame) (t : Tree part) → is_whole_at (mode_of m) (map bracket fs) ≡ false → result_in m fs ≡ Some t → ⊥
not_whole want fs t e r = let z : ◌≡◌ {A = ℕ} 0 1 = cc in omega arith
not_whole want_open fs t e r = let z : ◌≡◌ {A = ℕ} 0 1 = cc in omega arith
not_whole (ended u) [] t e r = true≢false e
not_whole (ended u) (f ∷ fs) t e r = let z : ◌≡◌ {A = ℕ} 0 1 = cc in omega arith
not_whole (done u) [] t e r = true≢false e
not_whole (done u) (f ∷ fs) t e r = let z : ◌≡◌ {A = ℕ} 0 1 = cc in omega arith

module _ (text : List ℕ) (from : ℕ) (p : Parser) (now : Sofar text from p) (none : Cut from (drop from text) []) where
  asked : is_whole (view p) ≡ is_whole_at (mode_of now.in_mode) (map bracket now.in_frames)
  asked = λ i. is_whole_at (now.same_mode i) (now.same_brackets i)

  pub at_end : is_whole (view p) ≡ true → Reads text (accepted (tree_of (view p).nodes))
  at_end e = now.rest [] _ none (whole (sound now.kept.reached (whole_tree now.in_mode now.in_frames (view p).nodes now.kept.holds (sym asked ∙ e))))

  pub one_part : is_whole (view p) ≡ true → length (trees (view p).nodes) ≡ 1
  one_part e = ap length now.kept.holds ∙ whole_one now.in_mode now.in_frames (sym asked ∙ e)

  pub cut_short : is_whole (view p) ≡ false → Reads text (refused (number_of refusal.Grammar) (length text))
  unfolding result_of
  cut_short e = now.rest [] _ none (broken_off λ t w.
      let s = complete w in
      let same : live s.0 ≡ going now.in_mode now.in_frames = sym s.1 ∙ now.kept.reached in
      not_whole now.in_mode now.in_frames t (sym asked ∙ e) (sym (ap result_of same) ∙ s.2))

pub begun_so : (text : List ℕ) (p : Parser) → 1 ≤ length text → length text ≤ 250 → view p ≡ begun → Sofar text 0 p
begun_so text p some few e = record {
  so_far = [];
  in_mode = want;
  in_frames = [];
  same_mode = ap (λ (v : View). v.mode) e;
  same_brackets = ap (λ (v : View). v.brackets) e;
  kept = subst (λ (v : View). Kept [] want [] v.nodes) (sym e) (record { reached = refl; holds = refl; few = omega arith; no_more = omega arith; seen = λ k h. absurd (false≢true h); unseen = λ k h i. elim i [ ] });
  small = omega arith;
  rest = λ ss o c l. by_stretches some few c l;
}
