-- A text after its first head, read piece by piece.
use Rattle.std.proofs.Common.{ℕ, ◌≡◌, ◌≢◌, ◌+◌, ◌<◌, ◌≤◌, ◌^◌, List, [], ◌∷◌, ◌++◌, length, length-append, append_assoc, append-nil, refl, sym, subst, ap, ◌∙◌, arith}
use Rattle.std.proofs.lemmas.Grind.{flat_map-append}
use Rattle.known_text.specs.declared.fault.KnownFault.{KnownFault}
use Rattle.known_text.specs.Records.{RanValue}
use Rattle.known_text.specs.Texts.{Source, HeadValue, Piece, Head, Ran, lines_in, lines_of, runs_in, runs_of, bytes_of, ended}
use Rattle.known_text.specs.Pieces.{AreOnly, IsOnly, Steps, IsGot, HasAll, PieceFault, PiecesFault}

-- one more piece, and its lines, its bytes and what it says
pub lines_push : (inputs : ℕ) (h : HeadValue) (ps : List Piece) (p : Piece) → lines_of inputs h (ps ++ p ∷ []) ≡ lines_of inputs h ps ++ lines_in inputs h p
lines_push inputs h ps p = flat_map-append (lines_in inputs h) ps (p ∷ []) ∙ ap (λ (ls : List (List ℕ)). lines_of inputs h ps ++ ls) (append-nil (lines_in inputs h p))

pub runs_push : (ps : List Piece) (p : Piece) → runs_of (ps ++ p ∷ []) ≡ runs_of ps ++ runs_in p
runs_push ps p = flat_map-append runs_in ps (p ∷ []) ∙ ap (λ (rs : List RanValue). runs_of ps ++ rs) (append-nil (runs_in p))

pub bytes_both : (ls ms : List (List ℕ)) → bytes_of (ls ++ ms) ≡ bytes_of ls ++ bytes_of ms
bytes_both ls ms = flat_map-append ended ls ms

only_push : (s : Source) (ps : List Piece) (p : Piece) → AreOnly s ps → IsOnly s p → AreOnly s (ps ++ p ∷ [])
only_push s [] p all own = (own, tt)
only_push s (q ∷ ps) p all own = (all.0, only_push s ps p all.1 own)

pub got_none : (s : Source) (h : HeadValue) (bytes : List ℕ) (runs : List RanValue) → runs ≡ [] → IsGot s h bytes bytes 5 runs
got_none s h bytes runs none =
    let short : length runs ≡ 0 = ap length none in
    record { pieces = []; only = tt; is = refl; at = omega arith; said = none; few = omega (arith, short) }

pub got_more : (s : Source) (h : HeadValue) (bytes rest more : List ℕ) (line next : ℕ) (runs new : List RanValue) → IsGot s h bytes rest line runs → Steps s h rest line runs new more next
    → IsGot s h bytes more next new
got_more s h bytes rest more line next runs new got step =
    let ps = got.pieces in
    let p = step.piece in
    let lines : length (lines_of s.inputs h (ps ++ p ∷ [])) ≡ length (lines_of s.inputs h ps) + length (lines_in s.inputs h p) =
    ap length (lines_push s.inputs h ps p) ∙ length-append (lines_of s.inputs h ps) (lines_in s.inputs h p) in
    let was = got.at in
    let at = step.at in
    record {
      pieces = ps ++ p ∷ [];
      only = only_push s ps p got.only step.only;
      is = got.is ∙ ap (λ (bs : List ℕ). bytes_of (lines_of s.inputs h ps) ++ bs) step.is
          ∙ sym (append_assoc (bytes_of (lines_of s.inputs h ps)) (bytes_of (lines_in s.inputs h p)) more)
          ∙ ap (λ (bs : List ℕ). bs ++ more) (sym (bytes_both (lines_of s.inputs h ps) (lines_in s.inputs h p)))
          ∙ ap (λ (ls : List (List ℕ)). bytes_of ls ++ more) (sym (lines_push s.inputs h ps p));
      at = omega (arith, lines, was, at);
      said = step.said ∙ ap (λ (rs : List RanValue). rs ++ runs_in p) got.said ∙ sym (runs_push ps p);
      few = step.few;
    }

-- there are no more lines than bytes
lines_few : (ls : List (List ℕ)) → length ls ≤ length (bytes_of ls)
lines_few [] = omega arith
lines_few (l ∷ ls) =
    let rest = lines_few ls in
    let long : length (ended l ++ bytes_of ls) ≡ length (ended l) + length (bytes_of ls) = length-append (ended l) (bytes_of ls) in
    let own : length (ended l) ≡ length l + 1 = length-append l (10 ∷ []) in
    omega (arith, rest, long, own)

pub got_low : (s : Source) (h : HeadValue) (bytes rest : List ℕ) (line : ℕ) (runs : List RanValue) → IsGot s h bytes rest line runs → length bytes ≤ 2 ^ 30 → line + 4 < 2 ^ 32
got_low s h bytes rest line runs got short =
    let ls = lines_of s.inputs h got.pieces in
    let few = lines_few ls in
    let long : length bytes ≡ length (bytes_of ls) + length rest = ap length got.is ∙ length-append (bytes_of ls) rest in
    let at = got.at in
    omega (arith, few, long, at, short)

-- a piece has some bytes
pub step_shorter : (s : Source) (h : HeadValue) (bytes rest : List ℕ) (line next : ℕ) (old new : List RanValue) → Steps s h bytes line old new rest next → length rest < length bytes
step_shorter s h bytes rest line next old new step =
    let ls = lines_in s.inputs h step.piece in
    let few = lines_few ls in
    let long : length bytes ≡ length (bytes_of ls) + length rest = ap length step.is ∙ length-append (bytes_of ls) rest in
    let some = lines_some step.piece in
    omega (arith, few, long, some)
  where
    lines_some : (p : Piece) → 1 ≤ length (lines_in s.inputs h p)
    lines_some Head = omega arith
    lines_some (Ran l r) = omega arith

pub got_all : (s : Source) (h : HeadValue) (bytes rest : List ℕ) (line : ℕ) (runs : List RanValue) → IsGot s h bytes rest line runs → rest ≡ [] → HasAll s h bytes runs
got_all s h bytes rest line runs got none = record { line = line; got = subst (λ (bs : List ℕ). IsGot s h bytes bs line runs) none got }

pub got_fault : (s : Source) (h : HeadValue) (bytes rest : List ℕ) (line count : ℕ) (runs : List RanValue) (f : KnownFault) → IsGot s h bytes rest line runs → rest ≢ [] → count ≡ length runs
    → PieceFault s h rest line count f → PiecesFault s h bytes f
got_fault s h bytes rest line count runs f got some same fault = record {
  rest = rest;
  line = line;
  runs = runs;
  got = got;
  some = some;
  fault = subst (λ n. PieceFault s h rest line n f) same fault;
}
