-- A case that is split goes on with the first group, which has the same representative, and so the same image.
use Rattle.std.proofs.Common.{ℕ, ◌≡◌, ◌++◌, ◌<◌, nat_lt, Bool, true, false, if◌then◌else◌, List, ◌∷◌, length, map, reverse, set, sum_by, slice_get, slice_index_or, Option, None, Some, All, refl, sym, subst, ◌∙◌, ap, arith}
use Rattle.std.proofs.lemmas.Option.{slice_get-get_or}
use Rattle.epochs.specs.declared.part.Part.{Part}
use Rattle.choices.specs.declared.fate.Fate.{Fate}
use Rattle.choices.specs.Choices.{nowhere}
use Rattle.cases.specs.declared.split.Parted.{Parted}
use Rattle.cases.specs.declared.search.Frame.{Frame}
use Rattle.cases.specs.Choices.{image_at}
use Rattle.cases.specs.Cases.{Case, is_same, with_part, representative, firsts, kinds, show_alike, first_split}
use Rattle.cases.specs.Trees.{Program}
use Rattle.cases.specs.Sets.{fates_in}
use Rattle.cases.specs.AtCut.{CutValue, Apart, parts_of, case_of, image_of, split_by, split_at, IsFound}
use Rattle.cases.specs.Search.{Asked, others}
use Rattle.cases.proofs.Cases.{IsSplit, first_is, shown_kinds, same_part}
use Rattle.cases.proofs.Chosen.{case_there, case_with, first_group}
use Rattle.cases.proofs.Paths.{GoneSo, gone_none, gone_more, has_first}

first_kept : (c : Case) (p : Part) (fates : List (Option Fate)) → slice_index_or fates 0 None ≡ slice_index_or (c p) 0 None → (q : Part)
    → representative (with_part c p fates) q ≡ representative c q
first_kept c p fates head q = by_test (is_same p q) refl
  where
    by_test : (b : Bool) → is_same p q ≡ b → slice_index_or (if b then fates else c q) 0 None ≡ slice_index_or (c q) 0 None
    by_test true is = head ∙ ap (λ (r : Part). slice_index_or (c r) 0 None) (same_part p q is)
    by_test false is = refl

pub same_image : (at : CutValue) (program : Program) (tears : Bool) (sets : List ℕ) (it : Parted) (g : ℕ) (gs : List ℕ) → Apart (parts_of at)
    → length sets ≡ length (parts_of at) → it.part < length (parts_of at) → it.groups.items ≡ g ∷ gs
    → split_at at program (case_of tears (parts_of at) sets) ≡ Some (split_by (parts_of at) it)
    → image_of at (case_of tears (parts_of at) (set sets it.part g)) ≡ image_of at (case_of tears (parts_of at) sets)
same_image at program tears sets it g gs apart long inside groups is =
    let parts = parts_of at in
    let c = case_of tears parts sets in
    let p : Part = slice_index_or parts it.part nowhere in
    let there : slice_get parts it.part ≡ Some p = slice_get-get_or parts it.part nowhere inside in
    let held : it.part < length sets = omega (arith, inside, long) in
    let found : IsSplit c (split_by parts it) = first_is at.log at.way at.cut c _ (split_by parts it) is in
    let alike = show_alike p found.unit found.pieces in
    let old : c p ≡ fates_in (slice_index_or sets it.part 0) = case_there tears parts sets it.part p apart there held in
    let are : map fates_in (g ∷ gs) ≡ kinds alike (fates_in (slice_index_or sets it.part 0)) = sym (ap (map fates_in) groups) ∙ found.groups ∙ ap (kinds alike) old in
    let many : nat_lt 1 (length (firsts alike (fates_in (slice_index_or sets it.part 0)))) ≡ true = sym (ap (λ fs. nat_lt 1 (length (firsts alike fs))) old) ∙ found.many in
    let first = first_group alike (shown_kinds p found.unit found.pieces) (slice_index_or sets it.part 0) g gs are many in
    let head : slice_index_or (fates_in g) 0 None ≡ slice_index_or (c p) 0 None =
    ap (λ (fs : List (Option Fate)). slice_index_or fs 0 None) first.is_own ∙ sym (ap (λ (fs : List (Option Fate)). slice_index_or fs 0 None) (old ∙ first.is_all)) in
    ap (image_of at) (case_with tears parts sets it.part p g apart there held)
    ∙ (λ i. image_at at.log at.way at.cut (λ q. first_kept c p (fates_in g) head q i))

-- the way down from a case, with the image as it was
pub record NarrowedSo (at : CutValue) (program : Program) (tears : Bool) (sets : List ℕ) (frames : List Frame) (now : List ℕ) (more : List Frame) : Type 0 where
  pub gone : GoneSo at program tears sets frames now more
  pub image : image_of at (case_of tears (parts_of at) now) ≡ image_of at (case_of tears (parts_of at) sets)

pub narrowed_none : (at : CutValue) (program : Program) (tears : Bool) (sets : List ℕ) (frames : List Frame) → length sets ≡ length (parts_of at)
    → All (λ (f : Frame). f.part < length sets) frames → NarrowedSo at program tears sets frames sets frames
narrowed_none at program tears sets frames each splits = record { gone = gone_none at program tears sets frames each splits; image = refl }

pub narrowed_more : (at : CutValue) (program : Program) (tears : Bool) (sets : List ℕ) (frames : List Frame) (now : List ℕ) (more : List Frame) (it : Parted) (next : List ℕ) (after : List Frame)
    → Apart (parts_of at) → NarrowedSo at program tears sets frames now more
    → (it.part < length (parts_of at)) × (split_at at program (case_of tears (parts_of at) now) ≡ Some (split_by (parts_of at) it))
    → length next ≡ length now → All (λ (f : Frame). f.part < length next) after
    → ((g : ℕ) (gs : List ℕ) → it.groups.items ≡ g ∷ gs → next ≡ set now it.part g)
    → ((g : ℕ) (gs : List ℕ) → it.groups.items ≡ g ∷ gs
    → map (λ (bits : ℕ). case_of tears (parts_of at) (set now it.part bits)) it.groups.items ++ others tears (parts_of at) now (reverse more)
    ≡ case_of tears (parts_of at) next ∷ others tears (parts_of at) next (reverse after))
    → NarrowedSo at program tears sets frames next after × (sum_by (λ bits. length (fates_in bits)) next < sum_by (λ bits. length (fates_in bits)) now)
narrowed_more at program tears sets frames now more it next after apart so is long splits first split =
    let anything : Asked = record { at = at; torn = 0; lost = None } in
    let has = has_first anything program (case_of tears (parts_of at) now) it is.1 in
    let gone = gone_more at program tears sets frames now more it next after apart so.gone is long splits first split in (
      record {
        gone = gone.0;
        image =
            ap (λ (xs : List ℕ). image_of at (case_of tears (parts_of at) xs)) (first has.first has.rest has.is)
            ∙ same_image at program tears now it has.first has.rest apart so.gone.each is.0 has.is is.1 ∙ so.image;
      },
      gone.1,
    )

-- what a judge says of the sectors of its last run, which was on the image of the case above
pub found_here : (at here : CutValue) (program : Program) (tears : Bool) (first now seen looked : List ℕ) (found : Option Parted) → here ≡ at → seen ≡ now
    → looked ≡ program.footprint (image_of at (case_of tears (parts_of at) first))
    → image_of at (case_of tears (parts_of at) now) ≡ image_of at (case_of tears (parts_of at) first)
    → IsFound (parts_of here) found (first_split here.log here.way here.cut (case_of tears (parts_of here) seen) looked)
    → IsFound (parts_of at) found (split_at at program (case_of tears (parts_of at) now))
found_here at here program tears first now seen looked found is read own same told =
    let one = subst (λ (a : CutValue). IsFound (parts_of a) found (first_split a.log a.way a.cut (case_of tears (parts_of a) seen) looked)) is told in
    let two = subst (λ (ss : List ℕ). IsFound (parts_of at) found (first_split at.log at.way at.cut (case_of tears (parts_of at) ss) looked)) read one in
    subst (λ (ns : List ℕ). IsFound (parts_of at) found (first_split at.log at.way at.cut (case_of tears (parts_of at) now) ns)) (own ∙ sym (ap program.footprint same)) two
