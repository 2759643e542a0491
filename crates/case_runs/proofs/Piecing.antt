-- Pieces of the tree of a cut and a checker.
use Rattle.std.proofs.Common.{ℕ, ◌≡◌, Bool, List, [], ◌∷◌, ◌++◌, length, map, refl, sym, subst, ◌∙◌, ap, append_assoc}
use Rattle.std.specs.List.{All}
use Rattle.std.specs.Global.{Vec}
use Rattle.std.proofs.lemmas.List.{map-append}
use Rattle.std.proofs.lemmas.List.Elements.{All-head, All-tail}
use Rattle.checker.specs.Checker.{CheckerValue}
use Rattle.cases.specs.Cases.{Case}
use Rattle.cases.specs.AtCut.{CutValue, parts_of, case_of}
use Rattle.cases.specs.Trees.{Subject}
use Rattle.losses.specs.declared.found.Losses.{Losses}
use Rattle.losses.specs.declared.found.CaseFindings.{CaseFindings}
use Rattle.case_runs.specs.declared.pieces.Start.{Start}
use Rattle.case_runs.specs.declared.pieces.Subtree.{Subtree}
use Rattle.case_runs.specs.declared.pieces.Subtree.TheVariants as piece
use Rattle.case_runs.specs.declared.pieces.Ran.{Ran}
use Rattle.case_runs.specs.Pieces.{subject_in, start_case, IsStretch, ArePieces, RanFrom, told_as, open_at, StartsSo, IsStep}
use Rattle.case_runs.proofs.Stretching.{stretch_beside}

-- pieces, and then others
pub pieces_beside : (s : Subject) (tears : Bool) (at : CutValue) (xs ys : List Subtree) (cs ds : List Case) → ArePieces s tears at xs cs → ArePieces s tears at ys ds
    → ArePieces s tears at (xs ++ ys) (cs ++ ds)
pieces_beside s tears at [] ys cs ds none own = subst (λ (bs : List Case). ArePieces s tears at ys (bs ++ ds)) (sym none) own
pieces_beside s tears at (piece.Told found ∷ xs) ys cs ds it own = (it.0 ++ ds, stretch_beside s tears at cs it.0 ds found it.1, pieces_beside s tears at xs ys it.0 ds it.2 own)
pieces_beside s tears at (piece.Open start ∷ xs) ys cs ds it own = (it.0 ++ ds, ap (λ (bs : List Case). bs ++ ds) it.1, it.2, pieces_beside s tears at xs ys it.0 ds it.3 own)

-- in the place of an open piece stands what came of it
pub put_in : (s : Subject) (tears : Bool) (at : CutValue) (out new rest : List Subtree) (start : Start) (cs : List Case) → ArePieces s tears at (out ++ (piece.Open start ∷ rest)) cs
    → ArePieces s tears at new (start_case tears at start ∷ []) → ArePieces s tears at (out ++ (new ++ rest)) cs
put_in s tears at [] new rest start cs it own = subst (ArePieces s tears at (new ++ rest)) (sym it.1) (pieces_beside s tears at new rest (start_case tears at start ∷ []) it.0 own it.3)
put_in s tears at (piece.Told found ∷ out) new rest start cs it own = (it.0, it.1, put_in s tears at out new rest start it.0 it.2 own)
put_in s tears at (piece.Open first ∷ out) new rest start cs it own = (it.0, it.1, it.2, put_in s tears at out new rest start it.0 it.3 own)

open_all : (s : Subject) (tears : Bool) (at : CutValue) (left : List (Vec ℕ)) → All (λ (sets : Vec ℕ). length sets.items ≡ length (parts_of at)) left
    → ArePieces s tears at (map open_at left) (map (λ (sets : Vec ℕ). case_of tears (parts_of at) sets.items) left)
open_all s tears at [] each = refl
open_all s tears at (x ∷ left) each = (
  map (λ (sets : Vec ℕ). case_of tears (parts_of at) sets.items) left,
  refl,
  (λ is. All-head (λ (sets : Vec ℕ). length sets.items ≡ length (parts_of at)) x left each),
  open_all s tears at left (All-tail (λ (sets : Vec ℕ). length sets.items ≡ length (parts_of at)) x left each),
)

-- the pieces of a run
pub pieces_ran : (asked : Losses) (at : CutValue) (checker : CheckerValue) (most : ℕ) (from : List Case) (ran : Ran) (pieces : List Subtree) → RanFrom asked at checker most from ran
    → pieces ≡ told_as ran.found ∷ map open_at ran.left.items → ArePieces (subject_in asked at checker) asked.tears at pieces from
pieces_ran asked at checker most from ran pieces so is =
    let s = subject_in asked at checker in
    subst (λ (ps : List Subtree). ArePieces s asked.tears at ps from) (sym is)
    (map (λ (sets : Vec ℕ). case_of asked.tears (parts_of at) sets.items) ran.left.items, so.stretch, open_all s asked.tears at ran.left.items so.each)

-- one piece

pub told_step : (s : Subject) (tears : Bool) (at : CutValue) (found : CaseFindings) (most : ℕ) → IsStep s tears at (piece.Told found) found most
told_step s tears at found most = record { step = λ pieces from it. record { to = it.0; stretch = it.1; rest = λ few. it.2 } }

pub open_step : (asked : Losses) (at : CutValue) (checker : CheckerValue) (most : ℕ) (start : Start) (ran : Ran) → RanFrom asked at checker most (start_case asked.tears at start ∷ []) ran
    → IsStep (subject_in asked at checker) asked.tears at (piece.Open start) ran.found most
open_step asked at checker most start ran so =
    let s = subject_in asked at checker in
    let to : List Case = map (λ (sets : Vec ℕ). case_of asked.tears (parts_of at) sets.items) ran.left.items in
    record {
      step = λ pieces from it. record {
        to = to ++ it.0;
        stretch =
            subst (λ (cs : List Case). IsStretch s asked.tears at cs ran.found (to ++ it.0)) (sym it.1)
            (stretch_beside s asked.tears at (start_case asked.tears at start ∷ []) to it.0 ran.found so.stretch);
        rest = λ few.
            subst (λ (left : List (Vec ℕ)). ArePieces s asked.tears at pieces (map (λ (sets : Vec ℕ). case_of asked.tears (parts_of at) sets.items) left ++ it.0)) (sym (so.ended few)) it.3;
      };
    }

pub first_starts : (s : Subject) (tears : Bool) (at : CutValue) (it : Subtree) (pieces : List Subtree) (from : List Case) → ArePieces s tears at (it ∷ pieces) from → StartsSo at it
first_starts s tears at (piece.Told found) pieces from own = tt
first_starts s tears at (piece.Open start) pieces from own = own.2

pub open_next : (head was now : List Subtree) (xs : List (Vec ℕ)) (x : Vec ℕ) → was ≡ head ++ map open_at xs → now ≡ was ++ open_at x ∷ [] → now ≡ head ++ map open_at (xs ++ x ∷ [])
open_next head was now xs x so is =
    is ∙ ap (λ (ps : List Subtree). ps ++ open_at x ∷ []) so ∙ append_assoc head (map open_at xs) (open_at x ∷ []) ∙ ap (λ (ps : List Subtree). head ++ ps) (sym (map-append open_at xs (x ∷ [])))
