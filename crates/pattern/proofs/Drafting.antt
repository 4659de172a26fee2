-- How the parts of a pattern come to stand before each other in a draft.
use Rattle.std.proofs.Common.{◌≡◌, ℕ, ◌+◌, ◌-◌, ◌≤◌, true, false, ◌⊎◌, List, [], ◌∷◌, ◌++◌, reverse, length, take, drop, sym, refl, ap, ◌∙◌, subst, ap₂, inl, inr, append_assoc, append-nil, arith, length-append}
use borrow.Rule.Slice.PartMut.{put_mid}
use Rattle.std.proofs.lemmas.List.{drop_at, drop-drop, length-take-le, nil_from_length}
use Rattle.std.proofs.lemmas.Bool.{true≢false, false≢true}
use Rattle.events.specs.declared.EventType.{EventType}
use Rattle.grammar.specs.declared.Symbol.{Symbol}
use Rattle.grammar.specs.declared.Symbol.TheVariants.{Seq, Open, Close, Comma, Plus}
use Rattle.grammar.specs.Texts.{tokens, spelling, written}
use Rattle.grammar.specs.Trees.{part, Tree, name, plus, seq, two}
use Rattle.grammar.proofs.Derivations.{spelling_append}
use Rattle.pattern.specs.declared.draft.Draft.{Draft}
use Rattle.pattern.specs.declared.node.Node.{Node}
use Rattle.pattern.specs.declared.node.Node.TheVariants as node
use Rattle.pattern.specs.Drafts.{drafted, Puts, PutsLast, operand, leading, unclosed, newest_is_plus}
use Rattle.pattern.specs.Nodes.{lengthened, repeat_last, join_last, trees, last_of}
use Rattle.pattern.proofs.Holding.{last_first}

-- bytes written before the place `at`
pub put_front : (bytes : List ℕ) (at : ℕ) (w copy : List ℕ) → copy ≡ w → length w ≤ at → at ≤ length bytes → drop (at - length w) (put_mid (at - length w) (at - (at - length w)) bytes copy) ≡ w ++ drop at bytes
put_front bytes at w copy copied fits within =
    let start = at - length w in
    let same : start + (at - start) ≡ at = omega arith in
    let behind = drop-drop (at - start) start bytes ∙ ap (λ n. drop n bytes) same in
    drop_at (take start bytes) _ start (length-take-le start bytes (omega arith)) ∙ ap₂ (λ a b. a ++ b) copied behind

-- first these tokens, then others before them
then_puts : (xs ys : List Symbol) {d e f : Draft} → Puts ys d e → Puts xs e f → Puts (xs ++ ys) d f
then_puts xs ys {d} p q = record {
  front = λ room.
      let all = length-append (spelling xs) (spelling ys) in
      let room' : length (spelling xs ++ spelling ys) + length (drafted d) ≤ 250 = simp spelling_append at room in
      let behind = p.front (omega arith) in
      let long = ap length behind ∙ length-append (spelling ys) (drafted d) in
      simp (spelling_append, append_assoc) (q.front (omega arith) ∙ ap (λ l. spelling xs ++ l) behind);
}

-- nodes with a known end
pub newest : {X : Type 0} (xs ys : List X) (x y : X) → xs ≡ ys ++ x ∷ [] → x ≡ y → reverse xs ≡ y ∷ reverse ys
newest xs ys x y e same = ap reverse e ∙ last_first ys x ∙ ap (λ z. z ∷ reverse ys) same

module _ (form : Tree part → List Symbol) (nodes : List Node) (d : Draft) (us : List (Tree part)) (e : Draft) where
  pub ended_by : (before : List Node) (n m : Node) → nodes ≡ before ++ n ∷ [] → n ≡ m → PutsLast form (trees (m ∷ reverse before)) d us e → PutsLast form (trees (reverse nodes)) d us e
  ended_by before n m split is h = subst (λ ns. PutsLast form (trees ns) d us e) (sym (newest nodes before n m split is)) h

  pub no_node : length nodes ≡ 0 → PutsLast form (trees (reverse nodes)) d us e
  no_node none = subst (λ ns. PutsLast form (trees (reverse ns)) d us e) (sym (nil_from_length nodes none)) tt

pub plus_puts : (ts us : List (Tree part)) (f : Draft) {d e : Draft} → Puts (Plus ∷ []) d e → PutsLast operand ts e us f → PutsLast tokens (repeat_last ts) d us f
plus_puts [] us f p h = tt
plus_puts (t ∷ ts) us f p h = (h.0, then_puts (operand t) (Plus ∷ []) p h.1)

pub lead_puts : (ts us : List (Tree part)) (d : Draft) {e f g : Draft} → PutsLast tokens ts d us e → Puts (Open ∷ []) e f → Puts (Seq ∷ []) f g → PutsLast leading ts d us g
lead_puts [] us d h p q = tt
lead_puts (t ∷ ts) us d h p q = (h.0, then_puts (Seq ∷ []) (Open ∷ tokens t) (then_puts (Open ∷ []) (tokens t) h.1 p) q)

-- a node makes f of the last two parts
module _ (f : Tree part → Tree part → Tree part) where
  pub close_puts : ((t u : Tree part) → tokens (f t u) ≡ unclosed (f t u) ++ Close ∷ []) → (ts us : List (Tree part)) (g : Draft) {d e : Draft} → Puts (Close ∷ []) d e → PutsLast unclosed (join_last f ts) e us g → PutsLast tokens (join_last f ts) d us g
  close_puts closed [] us g p h = tt
  close_puts closed (u ∷ []) us g p h = tt
  close_puts closed (u ∷ t ∷ ts) us g {d} p h = (h.0, subst (λ xs. Puts xs d g) (sym (closed t u)) (then_puts (unclosed (f t u)) (Close ∷ []) p h.1))

  pub join_puts : (form : Tree part → List Symbol) → ((t u : Tree part) → unclosed (f t u) ≡ form t ++ Comma ∷ tokens u) → (ts us vs : List (Tree part)) (d h : Draft) {e g : Draft} → PutsLast tokens ts d us e → Puts (Comma ∷ []) e g → PutsLast form us g vs h → PutsLast unclosed (join_last f ts) d vs h
  join_puts form joined [] us vs d h a p b = tt
  join_puts form joined (u ∷ []) us vs d h a p b = tt
  join_puts form joined (u ∷ t ∷ ts) us vs d h {e} {g} a p b =
      let c : PutsLast form (t ∷ ts) g vs h = subst (λ l. PutsLast form l g vs h) a.0 b in
      (c.0, subst (λ xs. Puts xs d h) (sym (joined t u)) (then_puts (form t) (Comma ∷ tokens u) (then_puts (Comma ∷ []) (tokens u) a.1 p) c.1))

-- brackets stand round the last part before a + exactly when its node is a plus
seq_operand : (f : Tree part → Tree part → Tree part) → ((t u : Tree part) → operand (f t u) ≡ tokens (f t u)) → (ts us : List (Tree part)) (d e : Draft) → PutsLast tokens (join_last f ts) d us e → PutsLast operand (join_last f ts) d us e
seq_operand f plain [] us d e h = tt
seq_operand f plain (u ∷ []) us d e h = tt
seq_operand f plain (u ∷ t ∷ ts) us d e h = (h.0, subst (λ xs. Puts xs d e) (sym (plain t u)) h.1)

plain_more : (t u : Tree part) → operand (lengthened t u) ≡ tokens (lengthened t u)
plain_more (name k) u = refl
plain_more (plus t) u = refl
plain_more (seq ts) u = refl

pub plain_operand : (ns : List Node) (us : List (Tree part)) (d e : Draft) → newest_is_plus ns ≡ false → PutsLast tokens (trees ns) d us e → PutsLast operand (trees ns) d us e
plain_operand [] us d e other h = tt
plain_operand (node.Name k ∷ ns) us d e other h = h
plain_operand (node.Plus ∷ ns) us d e other h = absurd (true≢false other)
plain_operand (node.Pair ∷ ns) us d e other h = seq_operand (λ t u. seq (two t u)) (λ t u. refl) (trees ns) us d e h
plain_operand (node.More ∷ ns) us d e other h = seq_operand lengthened plain_more (trees ns) us d e h

plus_operand : (ts us : List (Tree part)) {d e f g : Draft} → Puts (Close ∷ []) d e → PutsLast tokens (repeat_last ts) e us f → Puts (Open ∷ []) f g → PutsLast operand (repeat_last ts) d us g
plus_operand [] us p h q = tt
plus_operand (t ∷ ts) us p h q = (h.0, then_puts (Open ∷ []) (tokens (plus t) ++ Close ∷ []) (then_puts (tokens (plus t)) (Close ∷ []) p h.1) q)

pub enclosed_operand : (ns : List Node) (us : List (Tree part)) {d e f g : Draft} → newest_is_plus ns ≡ true → Puts (Close ∷ []) d e → PutsLast tokens (trees ns) e us f → Puts (Open ∷ []) f g → PutsLast operand (trees ns) d us g
enclosed_operand [] us other p h q = tt
enclosed_operand (node.Name k ∷ ns) us other p h q = absurd (false≢true other)
enclosed_operand (node.Plus ∷ ns) us other p h q = plus_operand (trees ns) us p h q
enclosed_operand (node.Pair ∷ ns) us other p h q = absurd (false≢true other)
enclosed_operand (node.More ∷ ns) us other p h q = absurd (false≢true other)

-- a longer SEQ
pub closed_more : (t u : Tree part) → tokens (lengthened t u) ≡ unclosed (lengthened t u) ++ Close ∷ []
closed_more (name k) u = refl
closed_more (plus t) u = refl
closed_more (seq ts) u = refl

pub joined_more : (t u : Tree part) → unclosed (lengthened t u) ≡ unclosed t ++ Comma ∷ tokens u
joined_more (name k) u = refl
joined_more (plus t) u = refl
joined_more (seq ts) u = refl

-- what is no SEQ goes on as the first part of one
lead_plus : (ts us : List (Tree part)) (d e : Draft) → PutsLast leading (repeat_last ts) d us e → PutsLast unclosed (repeat_last ts) d us e
lead_plus [] us d e h = tt
lead_plus (t ∷ ts) us d e h = h

module _ (d : Draft) (us : List (Tree part)) (e : Draft) where
  -- the form that goes on is that of a first part
  abbrev SameLead : List Node → Type 0
  SameLead ns = PutsLast leading (trees ns) d us e → PutsLast unclosed (trees ns) d us e

  pub lead_other : (nodes before : List Node) (n : Node) → nodes ≡ before ++ n ∷ [] → ((k : EventType) × (n ≡ node.Name k)) ⊎ (n ≡ node.Plus) → SameLead (reverse nodes)
  lead_other nodes before n split (inl is) = subst SameLead (sym (newest nodes before n (node.Name is.0) split is.1)) (λ h. h)
  lead_other nodes before n split (inr is) = subst SameLead (sym (newest nodes before n node.Plus split is)) (lead_plus (trees (reverse before)) us d e)

-- the text of the one part that all nodes stand for
pub whole_text : (ts us : List (Tree part)) (d e : Draft) → length ts ≡ 1 → drafted d ≡ [] → length (written (last_of ts)) ≤ 250 → PutsLast tokens ts d us e → drafted e ≡ written (last_of ts)
whole_text [] us d e one empty short h = absurd (omega arith)
whole_text (t ∷ ts) us d e one empty short h = h.1.front (omega (arith, ap length empty)) ∙ ap (λ l. written t ++ l) empty ∙ append-nil (written t)
