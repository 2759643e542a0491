-- What a reader of the text of `export` has.
use Rattle.std.proofs.Common.{ℕ, zero, suc, ◌≡◌, ◌+◌, ◌<◌, ◌≤◌, nat_eq, Bool, true, false, not, cond, if◌then◌else◌, List, [], ◌∷◌, length, map, filter, slice_set, Some, None, refl, sym, ◌∙◌, ap, inl, inr, arith}
use Rattle.std.specs.List.{range_with_len}
use Rattle.std.specs.Cmp.Lexicographic.{pointwise, same_text}
use Rattle.std.proofs.lemmas.Bool.{cases_lt}
use Rattle.std.proofs.lemmas.Bool.Decides.{eqb_tells}
use Rattle.std.proofs.lemmas.List.{length-set, get_or-set_same, get_or-set_other, set_past, same_lists, get_or_default}
use Rattle.std.proofs.lemmas.List.FromFn.{length-map-range_with_len}
use Rattle.logfmt.specs.Initial.{initial_sector}
use Rattle.images.specs.Keys.{content_at, differs, with_content, changed_below, changed_sectors}
use Rattle.images.specs.Views.{view_of}
use Rattle.images.specs.Whole.{length_view}
use Rattle.export.specs.Export.{AskedValue, choice_at, device_at, marks_before, is_same, first_same, is_new, initial_device, last_new, records_at}
use Rattle.export.specs.Laws.{written, reader, ExportsAreImages}
use Rattle.export.proofs.Same.{same_told, same_if, told_first, told_none, first_is_new, new_flag, same_flag}

-- writing changes no size
length-written : (image device : List (List ℕ)) (ns : List ℕ) → length (written device (map (with_content image) ns)) ≡ length device
unfolding written
length-written image device [] = refl
length-written image device (n ∷ ns) =
    length-written image (slice_set device n (content_at image n)) ns ∙ length-set device n (content_at image n)

-- one sector written
set_is : (image device : List (List ℕ)) (n k : ℕ) → content_at device k ≡ content_at image k → content_at (slice_set device n (content_at image n)) k ≡ content_at image k
set_is image device n k is = elim (eqb_tells k n) [
  | inl same ↦ elim (cases_lt n (length device)) [
    | inl inside ↦
        ap (content_at (slice_set device n (content_at image n))) same.1 ∙ get_or-set_same device n (content_at image n) [] inside ∙ ap (content_at image) (sym same.1)
    | inr past ↦ ap (λ (d : List (List ℕ)). content_at d k) (set_past device n (content_at image n) past) ∙ is
  ]
  | inr other ↦ get_or-set_other device n k (content_at image n) [] other.1 ∙ is
]

-- what is right stays right
stays : (image device : List (List ℕ)) (ns : List ℕ) (k : ℕ) → content_at device k ≡ content_at image k → content_at (written device (map (with_content image) ns)) k ≡ content_at image k
unfolding written
stays image device [] k is = is
stays image device (n ∷ ns) k is = stays image (slice_set device n (content_at image n)) ns k (set_is image device n k is)

-- each number that passes is written
reached : (image device : List (List ℕ)) (p : ℕ → Bool) (a n k : ℕ) → a ≤ k → k < a + n → k < length device → p k ≡ true
    → content_at (written device (map (with_content image) (filter p (range_with_len a n)))) k ≡ content_at image k
unfolding written
reached image device p a zero k low high inside passes = absurd (omega (arith, low, high))
reached image device p a (suc n) k low high inside passes =
    let rest : List ℕ = filter p (range_with_len (a + 1) n) in
    let by : (b : Bool) → p a ≡ b → content_at (written device (map (with_content image) (cond b (a ∷ rest) rest))) k ≡ content_at image k =
    λ b. elim b as (λ c. p a ≡ c → content_at (written device (map (with_content image) (cond c (a ∷ rest) rest))) k ≡ content_at image k) [
      | true ↦ λ e.
          let device_on : List (List ℕ) = slice_set device a (content_at image a) in
          elim (cases_lt a k) [
            | inl past ↦
                let long = length-set device a (content_at image a) in
                reached image device_on p (a + 1) n k (omega (arith, past)) (omega (arith, high)) (omega (arith, long, inside)) passes
            | inr here ↦
                let same : k ≡ a = omega (arith, low, here) in
                let own : content_at device_on k ≡ content_at image k =
                ap (content_at device_on) same ∙ get_or-set_same device a (content_at image a) [] (omega (arith, same, inside)) ∙ ap (content_at image) (sym same) in
                stays image device_on rest k own
          ]
      | false ↦ λ e. elim (cases_lt a k) [
        | inl past ↦ reached image device p (a + 1) n k (omega (arith, past)) (omega (arith, high)) inside passes
        | inr here ↦ absurd (let bad : true ≡ false = sym passes ∙ ap p (let same : k ≡ a = omega (arith, low, here) in same) ∙ e in cc)
      ]
    ] in
    by (p a) refl

-- a sector that doesn't differ
unlike : (b : Bool) → not b ≡ false → b ≡ true
unlike true h = refl
unlike false h = absurd (let bad : true ≡ false = h in cc)

pub unchanged : (base image : List (List ℕ)) (n : ℕ) → differs base image n ≡ false → content_at base n ≡ content_at image n
unfolding differs
unchanged base image n same = same_text (content_at base n) (content_at image n) (sym (unlike (pointwise nat_eq (content_at base n) (content_at image n)) same))

-- who writes the sectors in which an image differs has the image
pub image_written : (base image : List (List ℕ)) → length base ≡ length image → written base (changed_sectors base image) ≡ image
unfolding changed_below
image_written base image long =
    let ns : List ℕ = filter (differs base image) (range_with_len 0 (length image)) in
    let size : length (written base (map (with_content image) ns)) ≡ length image = length-written image base ns ∙ long in
    same_lists (written base (map (with_content image) ns)) image size (λ k d lt.
    let inside : k < length image = omega (arith, lt, size) in
    let here : content_at (written base (map (with_content image) ns)) k ≡ content_at image k =
    (let by : (b : Bool) → differs base image k ≡ b → content_at (written base (map (with_content image) ns)) k ≡ content_at image k =
    λ b. elim b as (λ c. differs base image k ≡ c → content_at (written base (map (with_content image) ns)) k ≡ content_at image k) [
      | true ↦ λ e. reached image base (differs base image) 0 (length image) k (omega arith) (omega (arith, inside)) (omega (arith, inside, long)) e
      | false ↦ λ e. stays image base ns k (unchanged base image k e)
    ] in
    by (differs base image k) refl) in
    get_or_default (written base (map (with_content image) ns)) k d [] lt ∙ here ∙ get_or_default image k [] d inside)

-- sizes
pub length-device : (a : AskedValue) (i : ℕ) → length (device_at a i) ≡ a.plan.log.sectors
unfolding device_at
length-device a i = length_view (view_of a.plan (choice_at a i))

pub length-initial : (a : AskedValue) → length (initial_device a.plan.log) ≡ a.plan.log.sectors
unfolding initial_device
length-initial a = length-map-range_with_len (initial_sector a.plan.log.initial) 0 a.plan.log.sectors

pub length-last_new : (a : AskedValue) (n : ℕ) → length (last_new a n) ≡ a.plan.log.sectors
unfolding last_new
length-last_new a zero = length-initial a
length-last_new a (suc i) =
    let by : (b : Bool) → length (if b then device_at a i else last_new a i) ≡ a.plan.log.sectors = λ b. elim b as (λ c. length (if c then device_at a i else last_new a i) ≡ a.plan.log.sectors) [
      | true ↦ length-device a i
      | false ↦ length-last_new a i
    ] in
    by (is_new a i)

-- a reader's device is the last new image
pub reads_last : (a : AskedValue) (n : ℕ) → reader a n ≡ last_new a n
unfolding reader last_new records_at
reads_last a zero = refl
reads_last a (suc i) =
    let was : reader a i ≡ last_new a i = reads_last a i in
    ap (λ (d : List (List ℕ)). if is_new a i then written d (records_at a i) else d) was
    ∙ ap (λ (d : List (List ℕ)). if is_new a i then d else last_new a i) (records_write a i)
  where
    records_write : (a : AskedValue) (i : ℕ) → written (last_new a i) (records_at a i) ≡ device_at a i
    records_write a i = image_written (last_new a i) (device_at a i) (length-last_new a i ∙ sym (length-device a i))

-- the last new image after a new one
pub new_shows : (a : AskedValue) (i : ℕ) → first_same a i ≡ None → last_new a (suc i) ≡ device_at a i
unfolding last_new
new_shows a i new = ap (λ b. if b then device_at a i else last_new a i) (new_flag a i new)

pub same_shows : (a : AskedValue) (i j : ℕ) → first_same a i ≡ Some j → last_new a (suc i) ≡ last_new a i
unfolding last_new
same_shows a i j same = ap (λ b. if b then device_at a i else last_new a i) (same_flag a i j same)

reads_new : (a : AskedValue) (i : ℕ) → first_same a i ≡ None → reader a (suc i) ≡ device_at a i
reads_new a i new = reads_last a (suc i) ∙ new_shows a i new

clash : (a : AskedValue) (i k : ℕ) → is_same a i k ≡ false → device_at a k ≡ device_at a i → marks_before a k ≡ marks_before a i → ⊥
clash a i k other bytes marks = let bad : true ≡ false = sym (same_if a i k (sym marks) (sym bytes)) ∙ other in cc

pub exports_are_images : ExportsAreImages
exports_are_images a = record {
  new = reads_new a;
  earlier = λ i j h. let high = (told_first a i j h).high in omega (arith, high);
  first = first_is_new a;
  bytes = λ i j h. reads_new a j (first_is_new a i j h) ∙ sym (same_told a i j (told_first a i j h).passes).1;
  marks = λ i j h. sym (same_told a i j (told_first a i j h).passes).0;
  none_before = λ i j k h lt bytes marks. clash a i k ((told_first a i j h).before k (omega arith) lt) bytes marks;
  none = λ i k h lt bytes marks. clash a i k (told_none a i k h lt) bytes marks;
}
