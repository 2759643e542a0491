-- Which record tells an image, by the bytes that are kept of it.
use Rattle.std.proofs.Common.{ℕ, zero, suc, ◌≡◌, ◌+◌, ◌<◌, ◌≤◌, ◌==◌, Bool, true, false, ◌&&◌, cond, List, [], ◌∷◌, ◌++◌, length, map, take, drop, slice_get, slice_index_or, Option, None, Some, All, refl, sym, subst, ◌∙◌, ap, arith, add-one}
use Rattle.std.specs.List.{list_all, find}
use Rattle.std.specs.Option.{option_map, option_map_or}
use Rattle.std.proofs.lemmas.List.Elements.{All-head, All-tail, All-get_or}
use Rattle.std.proofs.lemmas.List.{map-append}
use Rattle.base.proofs.Lists.{take-suc_place}
use Rattle.std.proofs.lemmas.Option.{slice_get-get_or, slice_get_within, slice_get-map, get_or_from_slice_get, same_Some, slice_get_past}
use Rattle.logfmt.specs.Bounds.{LogValue}
use Rattle.epochs.specs.declared.part.By.{By}
use Rattle.case_runs.specs.Images.{count_sectors}
use Rattle.known.specs.declared.run.KnownRun.{KnownRun}
use Rattle.known.specs.declared.records.Looked.{Looked}
use Rattle.known.specs.declared.records.KeptRun.{KeptRun}
use Rattle.known.specs.Records.{RecordsValue, cut_of_run, image_of_run, IsRun, AreRecords, same_sector, agree, tells, tells_at, looked_at, is_there, sectors_of_run, KeptValue, kept_value, kept_of_run, kept_tells}

pub long_image : (log : LogValue) (way : By) (r : KnownRun) → length (image_of_run log way r) ≡ log.sectors
long_image log way r = count_sectors (record { at = cut_of_run log way r; tears = true; sets = r.sets.items })

-- a sector of an image as it is kept
pub kept_is : (image : List (List ℕ)) (s : ℕ) (bytes : List ℕ) → slice_get image s ≡ Some bytes → ◌≡◌ {A = Looked} (record { number = s; bytes = bytes }) (looked_at image s)
kept_is image s bytes there = λ i. record { number = s; bytes = sym (get_or_from_slice_get image s bytes [] there) i }

pub all_there : (image device : List (List ℕ)) (sectors : List ℕ) (n : ℕ) → length image ≡ n → All (λ s. s < n) sectors
    → list_all (is_there device) (map (looked_at image) sectors) ≡ agree image device sectors
all_there image device [] n long within = refl
all_there image device (s ∷ sectors) n long within =
    let first : s < n = All-head (λ t. t < n) s sectors within in
    let here : slice_get image s ≡ Some (slice_index_or image s []) = slice_get-get_or image s [] (omega (arith, long, first)) in
    let one : is_there device (looked_at image s) ≡ same_sector (slice_get image s) (slice_get device s) = ap (λ o. same_sector o (slice_get device s)) (sym here) in
    (λ i. one i && all_there image device sectors n long (All-tail (λ t. t < n) s sectors within) i)

-- a record's sectors are on a device as its image and the device agree
pub record_there : (log : LogValue) (way : By) (r : KnownRun) (device : List (List ℕ)) → IsRun log way r
    → list_all (is_there device) (sectors_of_run log way r) ≡ agree (image_of_run log way r) device r.looked.items
record_there log way r device is = all_there (image_of_run log way r) device r.looked.items log.sectors (long_image log way r) is.device

-- a record at a place is one of the log
pub is_run : (v : RecordsValue) (kept : List KeptRun) (place : ℕ) (r : KnownRun) → AreRecords v kept → slice_get v.runs place ≡ Some r → IsRun v.log v.way r
is_run v kept place r so there =
    subst (IsRun v.log v.way) (get_or_from_slice_get v.runs place r r there) (All-get_or (IsRun v.log v.way) v.runs place r (slice_get_within v.runs place r there) so.runs)

-- what is kept at a place is of the record there
kept_there : (v : RecordsValue) (kept : List KeptRun) (place : ℕ) → AreRecords v kept → option_map kept_value (slice_get kept place) ≡ option_map (kept_of_run v.log v.way) (slice_get v.runs place)
kept_there v kept place so =
    sym (slice_get-map kept_value kept place) ∙ ap (λ (ks : List KeptValue). slice_get ks place) so.those ∙ slice_get-map (kept_of_run v.log v.way) v.runs place

-- one more record is kept
pub kept_more : (log : LogValue) (way : By) (runs : List KnownRun) (n : ℕ) (r : KnownRun) (old new : List KeptRun) (k : KeptRun) → map kept_value old ≡ map (kept_of_run log way) (take n runs)
    → new ≡ old ++ k ∷ [] → kept_value k ≡ kept_of_run log way r → slice_get runs n ≡ Some r → map kept_value new ≡ map (kept_of_run log way) (take (n + 1) runs)
kept_more log way runs n r old new k so put is there =
    ap (map kept_value) put ∙ map-append kept_value old (k ∷ []) ∙ (λ i. so i ++ is i ∷ []) ∙ sym (map-append (kept_of_run log way) (take n runs) (r ∷ []))
    ∙ ap (map (kept_of_run log way)) (sym (take-suc_place runs n r there)) ∙ ap (λ m. map (kept_of_run log way) (take m runs)) (sym (add-one n))

-- a record that is kept at a place
pub record IsKeptOf (v : RecordsValue) (place : ℕ) (k : KeptRun) : Type 0 where
  pub run : KnownRun
  pub there : slice_get v.runs place ≡ Some run
  pub is : IsRun v.log v.way run
  pub own : kept_value k ≡ kept_of_run v.log v.way run

pub kept_one : (v : RecordsValue) (kept : List KeptRun) (place : ℕ) (k : KeptRun) → AreRecords v kept → slice_get kept place ≡ Some k → IsKeptOf v place k
kept_one v kept place k so own = by (slice_get v.runs place) refl
  where
    here : Some (kept_value k) ≡ option_map (kept_of_run v.log v.way) (slice_get v.runs place)
    here = sym (ap (option_map kept_value) own) ∙ kept_there v kept place so

    by : (o : Option KnownRun) → slice_get v.runs place ≡ o → IsKeptOf v place k
    by None is = absurd (let bad : Some (kept_value k) ≡ None = here ∙ ap (option_map (kept_of_run v.log v.way)) is in cc)
    by (Some r) is = record {
      run = r;
      there = is;
      is = is_run v kept place r so is;
      own = same_Some (kept_value k) (kept_of_run v.log v.way r) (here ∙ ap (option_map (kept_of_run v.log v.way)) is);
    }

pub kept_none : (v : RecordsValue) (kept : List KeptRun) (place : ℕ) → AreRecords v kept → slice_get kept place ≡ None → slice_get v.runs place ≡ None
kept_none v kept place so own = by (slice_get v.runs place) refl
  where
    here : ◌≡◌ {A = Option KeptValue} None (option_map (kept_of_run v.log v.way) (slice_get v.runs place))
    here = sym (ap (option_map kept_value) own) ∙ kept_there v kept place so

    by : (o : Option KnownRun) → slice_get v.runs place ≡ o → slice_get v.runs place ≡ None
    by None is = is
    by (Some r) is = absurd (let bad : ◌≡◌ {A = Option KeptValue} None (Some (kept_of_run v.log v.way r)) = here ∙ ap (option_map (kept_of_run v.log v.way)) is in cc)

-- whether the record at a place tells a device
kept_tells_so : (log : LogValue) (way : By) (marks : ℕ) (device : List (List ℕ)) (r : KnownRun) → IsRun log way r → kept_tells marks device (kept_of_run log way r) ≡ tells log way marks device r
unfolding tells
kept_tells_so log way marks device r is = ap (λ b. (r.marks == marks) && b) (record_there log way r device is)

pub tells_by_kept : (v : RecordsValue) (kept : List KeptRun) (place : ℕ) (k : KeptRun) (marks : ℕ) (device : List (List ℕ)) (answer : Bool) → AreRecords v kept → slice_get kept place ≡ Some k
    → answer ≡ kept_tells marks device (kept_value k) → answer ≡ tells_at v marks device place
tells_by_kept v kept place k marks device answer so own is =
    let one = kept_one v kept place k so own in
    is ∙ ap (kept_tells marks device) one.own ∙ kept_tells_so v.log v.way marks device one.run one.is ∙ ap (λ o. option_map_or (tells v.log v.way marks device) o false) (sym one.there)

pub tells_by_none : (v : RecordsValue) (kept : List KeptRun) (place : ℕ) (marks : ℕ) (device : List (List ℕ)) → AreRecords v kept → slice_get kept place ≡ None → false ≡ tells_at v marks device place
tells_by_none v kept place marks device so own = ap (λ o. option_map_or (tells v.log v.way marks device) o false) (sym (kept_none v kept place so own))

-- of a list the first that does, from a place on
skip_one : {A : Type 0} (p : A → Bool) (xs : List A) (n : ℕ) → option_map_or p (slice_get xs n) false ≡ false → find p (drop (suc n) xs) ≡ find p (drop n xs)
skip_one p [] zero is = refl
skip_one p [] (suc n) is = refl
skip_one p (y ∷ xs) zero is = ap (λ b. cond b (Some y) (find p xs)) (sym is)
skip_one p (y ∷ xs) (suc n) is = skip_one p xs n is

here_one : {A : Type 0} (p : A → Bool) (xs : List A) (n : ℕ) → option_map_or p (slice_get xs n) false ≡ true → find p (drop n xs) ≡ slice_get xs n
here_one p [] zero is = absurd (let bad : false ≡ true = is in cc)
here_one p [] (suc n) is = absurd (let bad : false ≡ true = is in cc)
here_one p (y ∷ xs) zero is = ap (λ b. cond b (Some y) (find p xs)) is
here_one p (y ∷ xs) (suc n) is = here_one p xs n is

past_one : {A : Type 0} (p : A → Bool) (xs : List A) (n : ℕ) → length xs ≤ n → find p (drop n xs) ≡ None
past_one p [] zero le = refl
past_one p [] (suc n) le = refl
past_one p (x ∷ xs) zero le = absurd (omega (arith, le))
past_one p (x ∷ xs) (suc n) le = past_one p xs n (omega (arith, le))

pub first_skip : {A : Type 0} (p : A → Bool) (xs : List A) (n : ℕ) → false ≡ option_map_or p (slice_get xs n) false → find p (drop n xs) ≡ find p xs → find p (drop (n + 1) xs) ≡ find p xs
first_skip p xs n is so = ap (λ m. find p (drop m xs)) (add-one n) ∙ skip_one p xs n (sym is) ∙ so

pub first_here : {A : Type 0} (p : A → Bool) (xs : List A) (n : ℕ) → true ≡ option_map_or p (slice_get xs n) false → find p (drop n xs) ≡ find p xs → slice_get xs n ≡ find p xs
first_here p xs n is so = sym (here_one p xs n (sym is)) ∙ so

pub first_past : {A : Type 0} (p : A → Bool) (xs : List A) (n m : ℕ) → length xs ≤ n → length xs ≤ m → find p (drop n xs) ≡ find p xs → slice_get xs m ≡ find p xs
first_past p xs n m all over so = slice_get_past xs m over ∙ sym (past_one p xs n all) ∙ so
