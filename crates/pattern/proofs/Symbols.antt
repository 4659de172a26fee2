-- The symbol of a token is the one with the same bytes.
use Rattle.std.proofs.Common.{◌≡◌, ℕ, ◌≤◌, List, [], ◌∷◌, Some, None, Ok, Err, Result, sym, refl, ap, subst, arith}
use Rattle.std.specs.Result.{MatchResult, IsErrAnd}
use Rattle.std.proofs.lemmas.Result.{err_from_is_err_and}
use Rattle.grammar.specs.declared.Symbol.{Symbol}
use Rattle.grammar.specs.declared.Symbol.TheVariants as symbol
use Rattle.grammar.specs.Texts.{spelled}
use Rattle.pattern.specs.declared.parser.Parser.{Parser}
use Rattle.pattern.specs.declared.refusal.ReadFault.{ReadFault}
use Rattle.pattern.specs.declared.refusal.ReadRefusal.{ReadRefusal}
use Rattle.pattern.specs.declared.token.Placed.{Placed}
use Rattle.pattern.specs.declared.token.Token.{Token}
use Rattle.pattern.specs.declared.token.Token.TheVariants.{Word, Open, Close, Comma, Plus}
use Rattle.pattern.specs.Parsing.{View, view, verdict, Follows, by_verdict, Took}
use Rattle.pattern.specs.Reading.{Letters, Unknown}
use Rattle.pattern.specs.Tokens.{bytes, Worded, Symbolic}

pub known_symbol : (t : Token) (x : Symbol) → Symbolic t (Some x) → spelled x ≡ bytes t
known_symbol (Word w) x s = s.1
known_symbol Open x s = let e : x ≡ symbol.Open = cc in ap spelled e
known_symbol Close x s = let e : x ≡ symbol.Close = cc in ap spelled e
known_symbol Comma x s = let e : x ≡ symbol.Comma = cc in ap spelled e
known_symbol Plus x s = let e : x ≡ symbol.Plus = cc in ap spelled e

-- a sign is no letter
no_letters : (w : List ℕ) (b : ℕ) → (b ∷ []) ≡ w → Letters w → (65 ≤ b) × (b ≤ 90)
no_letters w b e all = (subst Letters (sym e) all).0

pub unknown_symbol : (t : Token) → Symbolic t None → Worded t → Unknown (bytes t)
unknown_symbol (Word w) s all (symbol.Name k) e = s (symbol.Name k) tt e
unknown_symbol (Word w) s all symbol.Seq e = s symbol.Seq tt e
unknown_symbol (Word w) s all symbol.Open e = let l = no_letters w.now 40 e all in omega arith
unknown_symbol (Word w) s all symbol.Close e = let l = no_letters w.now 41 e all in omega arith
unknown_symbol (Word w) s all symbol.Comma e = let l = no_letters w.now 44 e all in omega arith
unknown_symbol (Word w) s all symbol.Plus e = let l = no_letters w.now 43 e all in omega arith
unknown_symbol Open s all x e = let z : ◌≡◌ {A = ℕ} 0 1 = cc in absurd (omega arith)
unknown_symbol Close s all x e = let z : ◌≡◌ {A = ℕ} 0 1 = cc in absurd (omega arith)
unknown_symbol Comma s all x e = let z : ◌≡◌ {A = ℕ} 0 1 = cc in absurd (omega arith)
unknown_symbol Plus s all x e = let z : ◌≡◌ {A = ℕ} 0 1 = cc in absurd (omega arith)

-- the verdict on a known token, with its place where it stops
pub took_by : {P : ReadRefusal → ReadFault → Type 0} (v : View) (t : Placed) (p : Parser) (x : Symbol) (r : Result (Unit {0}) ReadRefusal) (s : Result (Unit {0}) ReadFault) → spelled x ≡ bytes t.token → Follows (verdict v x) r p → MatchResult r (λ u. s ≡ Ok u) (λ e. IsErrAnd s (P e)) → ((e : ReadRefusal) (f : ReadFault) → P e f → f ≡ record { refusal = e; place = t.place }) → Took v t s (view p)
took_by v t p x (Ok u) s known on is put = subst (λ z. Took v t z (view p)) (sym is) (x, known, on)
took_by v t p x (Err e) s known on is put =
    let fault = err_from_is_err_and s is in
    rw (fault.1, put e fault.0 fault.2) (by_verdict x known on refl)
