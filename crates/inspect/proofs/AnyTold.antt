-- The image of a choice of any number of parts, as it is told.
use Rattle.std.proofs.Common.{ℕ, zero, suc, ◌≡◌, ◌+◌, ◌<◌, Bool, true, false, if◌then◌else◌, List, [], ◌∷◌, ◌++◌, length, replicate, take, slice_get, Option, None, Some, MatchOption, Result, Ok, Err, OnOk, is_ok, refl, sym, subst, ◌∙◌, ap}
use Rattle.std.proofs.lemmas.List.{append-nil, take_more}
use Rattle.std.proofs.lemmas.Grind.{flat_map-append}
use Rattle.std.proofs.lemmas.Option.{same_Some, MatchOption-at_none}
use Rattle.std.specs.List.{slice_index_or}
use Rattle.logfmt.specs.Bounds.{LogValue}
use Rattle.epochs.specs.Cuts.{cuts_of}
use Rattle.epochs.specs.declared.part.Part.{Part}
use Rattle.epochs.specs.declared.part.By.{By}
use Rattle.choices.specs.Seeking.{LacksCut}
use Rattle.choices.specs.declared.choice.Departure.{Departure}
use Rattle.images.specs.Images.{crash_image}
use Rattle.images.specs.Views.{sectors_of}
use Rattle.images.specs.Whole.{length_view}
use Rattle.cases.specs.Choices.{departures}
use Rattle.cases.specs.Cases.{representative, is_same}
use Rattle.cases.specs.Sets.{fates_in, numbers_in}
use Rattle.cases.specs.AtCut.{CutValue, parts_of, case_of, image_of}
use Rattle.request.specs.declared.settings.Settings.{Settings}
use Rattle.lost_text.specs.Said.{NoneIsSaid, IsLostSo}
use Rattle.inspect.specs.AnyImage.{cut_of, IsLostOf, NoneIsMeant, IsToldSo, any_text_in}
use Rattle.inspect.specs.declared.looks.image_command.ImageForm.{ImageForm}
use Rattle.inspect.specs.declared.looks.image_command.ImageForm.TheVariants as form
use Rattle.inspect.specs.Image.{sector_bytes}
use Rattle.epochs.specs.Plan.{PlanValue}
use Rattle.request.specs.Source.{plan_of}
use Rattle.crash_text.specs.AnyShown.{any_shown_text}
use Rattle.crash_text.specs.Sectors.{difference_text}
use Rattle.lost_text.proofs.LostParts.{none_of_all, nothing_departs}
use Rattle.lost_text.proofs.Matching.{at_some}

-- as many sectors as the device has
pub count_sectors : (at : CutValue) (ds : List Departure) → length (crash_image at.log at.cut ds) ≡ at.log.sectors
unfolding sectors_of
count_sectors at ds = length_view (record { log = at.log; cut = at.cut; departures = ds })

pub count_in_case : (at : CutValue) (tears : Bool) (sets : List ℕ) → length (image_of at (case_of tears (parts_of at) sets)) ≡ at.log.sectors
count_in_case at tears sets = count_sectors at (departures (representative (case_of tears (parts_of at) sets)) (parts_of at))

-- the set of whole alone
one_whole : slice_index_or (fates_in 1) 0 None ≡ None
unfolding fates_in numbers_in
one_whole = refl

none_lost : (tears : Bool) (ps : List Part) (n : ℕ) (p : Part) → representative (case_of tears ps (replicate n 1)) p ≡ None
none_lost tears [] n p = none_of_all tears
none_lost tears (q ∷ ps) zero p = none_of_all tears
none_lost tears (q ∷ ps) (suc n) p = by_test (none_lost tears ps n p) (is_same q p)
  where
    by_test : representative (case_of tears ps (replicate n 1)) p ≡ None → (b : Bool)
        → slice_index_or (if b then fates_in 1 else case_of tears ps (replicate n 1) p) 0 None ≡ None
    by_test rest true = one_whole
    by_test rest false = rest

-- the image where nothing departs
pub whole_image : (at : CutValue) (tears : Bool) (n : ℕ) → image_of at (case_of tears (parts_of at) (replicate n 1)) ≡ crash_image at.log at.cut []
whole_image at tears n = ap (crash_image at.log at.cut) (nothing_departs (representative (case_of tears (parts_of at) (replicate n 1))) (parts_of at) (none_lost tears (parts_of at) n))

-- that of what departs
pub lost_image : (at : CutValue) (tears : Bool) (sets : List ℕ) (ds : List Departure) → departures (representative (case_of tears (parts_of at) sets)) (parts_of at) ≡ ds
    → image_of at (case_of tears (parts_of at) sets) ≡ crash_image at.log at.cut ds
lost_image at tears sets ds is = ap (crash_image at.log at.cut) is

-- a sector that is read, appended

there_or : {A : Type 0} (xs : List A) (i : ℕ) (x d : A) → slice_get xs i ≡ Some x → slice_index_or xs i d ≡ x
there_or [] i x d there = absurd (let bad : None ≡ Some x = there in cc)
there_or (y ∷ xs) zero x d there = same_Some y x there
there_or (y ∷ xs) (suc i) x d there = there_or xs i x d there

pub put_as : {T E : Type 0} (r : Result T E) (image : List (List ℕ)) (n : ℕ) (old new sector taken : List ℕ) → new ≡ (if is_ok r then old ++ taken else old) → taken ≡ sector
    → slice_get image n ≡ Some sector → OnOk r (new ≡ old ++ slice_index_or image n [])
put_as (Ok done) image n old new sector taken put same there = put ∙ ap (λ xs. old ++ xs) (same ∙ sym (there_or image n sector [] there))
put_as (Err e) image n old new sector taken put same there = tt

-- the wanted cut of a number

pub wanted_place : (cuts wanted : List ℕ) (cut place : ℕ) → slice_get cuts place ≡ Some cut → cuts ≡ wanted → (i : ℕ) × (slice_get wanted i ≡ Some cut)
wanted_place cuts wanted cut place there same = (place, subst (λ xs. slice_get xs place ≡ Some cut) same there)

-- no wanted cut is that one
pub no_cut : (s : Settings) (value : LogValue) (cut : ℕ) (said : List ℕ) → LacksCut (cuts_of s.cuts value.entries) cut → NoneIsMeant s value cut said
no_cut s value cut said lacks = record { none = λ ds is. lacks.none is.place is.wanted }

-- no choice there is printed so
pub no_choice : (s : Settings) (value : LogValue) (cut : ℕ) (said : List ℕ) → NoneIsSaid (cut_of s value cut) s.tears said → NoneIsMeant s value cut said
no_choice s value cut said none = record { none = λ ds is. none.none ds is.is }

-- one is, and the bytes tell its image
pub told_so : (kind : ImageForm) (s : Settings) (value : LogValue) (cut number : ℕ) (at : CutValue) (said : List ℕ) (sets : List ℕ) (ds : List Departure) (bytes : List ℕ)
    → at ≡ cut_of s value number → number ≡ cut → (place : ℕ) × (slice_get (cuts_of s.cuts value.entries) place ≡ Some cut) → IsLostSo at s.tears said sets ds
    → bytes ≡ any_text_in kind s value at.cut ds → IsToldSo kind s value cut said bytes
told_so kind s value cut number at said sets ds bytes is same wanted lost told =
    let there : at ≡ cut_of s value cut = is ∙ ap (cut_of s value) same in
    let own : IsLostSo (cut_of s value cut) s.tears said sets ds = subst (λ (x : CutValue). IsLostSo x s.tears said sets ds) there lost in
    record {
      departures = ds;
      meant = record { place = wanted.0; wanted = wanted.1; is = own.is };
      only = λ others it. own.only others it.is;
      told = told ∙ ap (λ (x : CutValue). any_text_in kind s value x.cut ds) there;
    }

-- no choice at that cut is printed so
pub none_so : (s : Settings) (value : LogValue) (cut number : ℕ) (at : CutValue) (said : List ℕ) → at ≡ cut_of s value number → number ≡ cut → NoneIsSaid at s.tears said
    → NoneIsMeant s value cut said
none_so s value cut number at said is same none =
    no_choice s value cut said (subst (λ (x : CutValue). NoneIsSaid x s.tears said) (is ∙ ap (cut_of s value) same) none)

-- the cut is that of the options
pub cut_is : (at : CutValue) (s : Settings) (value : LogValue) (way : By) (number : ℕ) → at ≡ record { log = value; way = way; cut = number } → way ≡ s.by → at ≡ cut_of s value number
cut_is at s value way number is same = is ∙ (λ i. record { log = value; way = same i; cut = number })

-- what was found of the text of a choice
pub none_said : {X : Type 0} (found : Option X) (at : CutValue) (tears asked : Bool) (said : List ℕ) (B : X → Type 0) → found ≡ None → tears ≡ asked
    → MatchOption found (NoneIsSaid at tears said) B → NoneIsSaid at asked said
none_said found at tears asked said B none same h = subst (λ t. NoneIsSaid at t said) same (MatchOption-at_none (NoneIsSaid at tears said) B none h)

pub lost_is_so : {X : Type 0} (found : Option X) (x : X) (at : CutValue) (tears asked : Bool) (said : List ℕ) (sets : X → List ℕ) (ds : X → List Departure) → found ≡ Some x
    → tears ≡ asked → MatchOption found (NoneIsSaid at tears said) (λ y. IsLostSo at tears said (sets y) (ds y)) → IsLostSo at asked said (sets x) (ds x)
lost_is_so found x at tears asked said sets ds some same h =
    subst (λ t. IsLostSo at t said (sets x) (ds x)) same (at_some found x (NoneIsSaid at tears said) (λ y. IsLostSo at tears said (sets y) (ds y)) some h)

-- the plan of the options
pub plan_is : (s : Settings) (value : LogValue) (plan : PlanValue) → plan.log ≡ value → plan.kind ≡ s.cuts → plan.by ≡ s.by → plan ≡ plan_of s value
plan_is s value plan log kind way = λ i. record { log = log i; kind = kind i; by = way i }

-- the bytes of the sectors so far, and of all

take_whole : {A : Type 0} (xs : List A) → take (length xs) xs ≡ xs
take_whole [] = refl
take_whole (x ∷ xs) = ap (λ ys. x ∷ ys) (take_whole xs)

pub bytes_more : (image : List (List ℕ)) (n : ℕ) (old new : List ℕ) → n < length image → old ≡ sector_bytes (take n image) → new ≡ old ++ slice_index_or image n []
    → new ≡ sector_bytes (take (n + 1) image)
bytes_more image n old new less was put =
    let last : List ℕ = slice_index_or image n [] in
    put ∙ ap (λ xs. xs ++ last) was
    ∙ ap (λ xs. sector_bytes (take n image) ++ xs) (sym (append-nil last))
    ∙ sym (flat_map-append (λ (sector : List ℕ). sector) (take n image) (last ∷ []))
    ∙ ap sector_bytes (sym (take_more image n [] less))

pub bytes_all : (image : List (List ℕ)) (n : ℕ) (bytes : List ℕ) → n ≡ length image → bytes ≡ sector_bytes (take n image) → bytes ≡ sector_bytes image
bytes_all image n bytes end was = was ∙ ap (λ m. sector_bytes (take m image)) end ∙ ap sector_bytes (take_whole image)

-- the image of what is lost and torn: its sectors, and what differs

pub lost_sectors : (at : CutValue) (sets taken : List ℕ) (ds : List Departure) (bytes : List ℕ) → IsLostOf at sets ds → taken ≡ sets
    → ((tears : Bool) → bytes ≡ sector_bytes (image_of at (case_of tears (parts_of at) taken))) → bytes ≡ sector_bytes (crash_image at.log at.cut ds)
lost_sectors at sets taken ds bytes lost same told =
    told lost.tears ∙ ap (λ (xs : List ℕ). sector_bytes (image_of at (case_of lost.tears (parts_of at) xs))) same
    ∙ ap sector_bytes (lost_image at lost.tears sets ds lost.departs)

pub lost_differences : (at : CutValue) (sets taken whole ones : List ℕ) (n : ℕ) (ds : List Departure) (old new : List ℕ) → IsLostOf at sets ds → taken ≡ sets → ones ≡ whole
    → whole ≡ replicate n 1
    → ((tears : Bool) → new ≡ old ++ difference_text (image_of at (case_of tears (parts_of at) ones)) (image_of at (case_of tears (parts_of at) taken)))
    → new ≡ old ++ difference_text (crash_image at.log at.cut []) (crash_image at.log at.cut ds)
lost_differences at sets taken whole ones n ds old new lost same this whole_is told =
    let beside : image_of at (case_of lost.tears (parts_of at) ones) ≡ crash_image at.log at.cut [] =
    ap (λ (xs : List ℕ). image_of at (case_of lost.tears (parts_of at) xs)) (this ∙ whole_is) ∙ whole_image at lost.tears n in
    let image : image_of at (case_of lost.tears (parts_of at) taken) ≡ crash_image at.log at.cut ds =
    ap (λ (xs : List ℕ). image_of at (case_of lost.tears (parts_of at) xs)) same ∙ lost_image at lost.tears sets ds lost.departs in
    told lost.tears ∙ (λ i. old ++ difference_text (beside i) (image i))

-- the image in words, by the plan of the options
pub words_are : (at : CutValue) (s : Settings) (value : LogValue) (plan : PlanValue) (ds : List Departure) (bytes : List ℕ) → at.log ≡ value → plan ≡ plan_of s value
    → bytes ≡ any_shown_text plan s.tears at.cut ds (crash_image at.log at.cut []) (crash_image at.log at.cut ds) → bytes ≡ any_text_in form.Words s value at.cut ds
words_are at s value plan ds bytes log plan_said told =
    told ∙ (λ i. any_shown_text (plan_said i) s.tears at.cut ds (crash_image (log i) at.cut []) (crash_image (log i) at.cut ds))
