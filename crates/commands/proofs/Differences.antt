-- `show` names each sector that differs.
use Rattle.std.proofs.Common.{ℕ, zero, suc, ◌≡◌, ◌≢◌, ◌+◌, ◌<◌, ◌⊎◌, inl, inr, Bool, true, false, not, cond, List, [], ◌∷◌, ◌++◌, codes, length, take, drop, get_or, slice_get, slice_index, append_assoc, Some, refl, sym, ◌∙◌, ap, subst, arith}
use Rattle.std.specs.List.{filter, flat_map, range_with_len}
use Rattle.std.specs.Option.{option_map_or}
use Rattle.std.specs.Fmt.{decimal}
use Rattle.std.proofs.lemmas.Bool.{cases_lt, false≢true}
use Rattle.std.proofs.lemmas.Bool.Decides.{eqb_tells}
use Rattle.std.proofs.lemmas.Grind.{flat_map-append}
use Rattle.std.proofs.lemmas.List.FromFn.{length-range_with_len, get_or-range_with_len}
use Rattle.std.proofs.lemmas.Option.{slice_get-get_or, slice_get_past, slice_get_within}
use Rattle.base.proofs.Lists.{same_by_place, split_at_place}
use Rattle.logfmt.specs.Laws.{TextOfOneLog}
use Rattle.epochs.specs.Plan.{PlanValue}
use Rattle.choices.specs.Choices.{ChoiceValue}
use Rattle.images.specs.Views.{view_of, sectors_of}
use Rattle.images.specs.Whole as device
use Rattle.crash_text.specs.Sectors.{differs, differences, difference_head, difference_rows, difference_at, sector_difference, both_there, sector_at, difference_text}
use Rattle.crash_text.specs.Shown.{numbered_text, chosen_text, choice_shown, cut_shown, shown_text}
use Rattle.request.specs.declared.settings.Settings.{Settings}
use Rattle.request.specs.declared.command.Which.{Which}
use Rattle.request.specs.Source.{Recording, plan_of}
use Rattle.inspect.specs.Image.{whole_view, IsShown}
use Rattle.commands.specs.Differences.{image_shown, image_beside, NamesSector, NamesNone, ShowNamesDifferences}
use Rattle.commands.proofs.OneReport.{same_log}

same_byte : (left right : List ℕ) (a : ℕ) → differs left right a ≡ false → slice_index left a ≡ slice_index right a
same_byte left right a h =
    elim (eqb_tells (slice_index left a) (slice_index right a)) [
      | inl equal ↦ equal.1
      | inr differ ↦ absurd (let bad : true ≡ false = subst (λ (b : Bool). not b ≡ false) differ.0 h in false≢true (sym bad))
    ]

-- where no byte of some differs, the first doesn't, and none of the others
first_and_rest : (left right : List ℕ) (a : ℕ) (rest : List ℕ) (b : Bool) → differs left right a ≡ b → cond b (a ∷ rest) rest ≡ [] → (slice_index left a ≡ slice_index right a) × (rest ≡ [])
first_and_rest left right a rest true test h = absurd (let bad : a ∷ rest ≡ [] = h in cc)
first_and_rest left right a rest false test h = (same_byte left right a test, h)

same_bytes : (left right : List ℕ) (a n : ℕ) → filter (differs left right) (range_with_len a n) ≡ [] → (i : ℕ) → i < n → slice_index left (a + i) ≡ slice_index right (a + i)
same_bytes left right a zero h i below = absurd (omega (arith, below))
same_bytes left right a (suc n) h zero below =
    let both = first_and_rest left right a (filter (differs left right) (range_with_len (a + 1) n)) (differs left right a) refl h in
    let place : a ≡ a + 0 = omega arith in
    subst (λ (k : ℕ). slice_index left k ≡ slice_index right k) place both.0
same_bytes left right a (suc n) h (suc i) below =
    let both = first_and_rest left right a (filter (differs left right) (range_with_len (a + 1) n)) (differs left right a) refl h in
    let place : a + 1 + i ≡ a + suc i = omega arith in
    let fewer : i < n = omega (arith, below) in
    subst (λ (k : ℕ). slice_index left k ≡ slice_index right k) place (same_bytes left right (a + 1) n both.1 i fewer)

-- sectors in which no byte differs are the same
same_sector : (left right : List ℕ) → length left ≡ 512 → length right ≡ 512 → differences left right 0 512 ≡ [] → left ≡ right
unfolding differences
same_sector left right long wide same = same_by_place left right at
  where
    at : (i : ℕ) → slice_get left i ≡ slice_get right i
    at i = elim (cases_lt i 512) [
      | inl below ↦
          let place : 0 + i ≡ i = omega arith in
          let byte : slice_index left i ≡ slice_index right i =
          subst (λ (k : ℕ). slice_index left k ≡ slice_index right k) place (same_bytes left right 0 512 same i below) in
          let here = slice_get-get_or left i 0 (omega (arith, long, below)) in
          let there = slice_get-get_or right i 0 (omega (arith, wide, below)) in
          here ∙ ap (λ (b : ℕ). Some b) byte ∙ sym there
      | inr past ↦
          let here = slice_get_past left i (omega (arith, long, past)) in
          let there = slice_get_past right i (omega (arith, wide, past)) in
          here ∙ sym there
    ]

-- a text that begins with what is said of a sector
record BeginsWith (text : List ℕ) (n : ℕ) : Type 0 where
  count : ℕ
  rest : List ℕ
  said : text ≡ codes "sector " ++ decimal n ++ codes ": " ++ decimal count ++ codes " of 512 bytes differ, the first is byte " ++ rest

group_rest : (a b c d e f g r : List ℕ) → (a ++ b ++ c ++ d ++ e ++ f ++ g) ++ r ≡ a ++ b ++ c ++ d ++ e ++ (f ++ g ++ r)
group_rest a b c d e f g r = simp append_assoc

-- a sector is the same in both, or it is said how many of its bytes differ
told : (n : ℕ) (left right : List ℕ) → length left ≡ 512 → length right ≡ 512 → (left ≡ right) ⊎ BeginsWith (sector_difference n left right) n
unfolding sector_difference difference_head
told n left right long wide = by (differences left right 0 512) refl
  where
    by : (ds : List ℕ) → differences left right 0 512 ≡ ds → (left ≡ right) ⊎ BeginsWith (sector_difference n left right) n
    by [] same = inl (same_sector left right long wide same)
    by (first ∷ ds) some =
        inr
        (record {
          count = length (differences left right 0 512);
          rest = decimal first ++ codes "\n" ++ difference_rows n left right first;
          said =
              ap (λ (xs : List ℕ). option_map_or (difference_at n left right) (slice_get xs 0) []) some
              ∙ group_rest (codes "sector ") (decimal n) (codes ": ") (decimal (length (differences left right 0 512))) (codes " of 512 bytes differ, the first is byte ")
              (decimal first) (codes "\n") (difference_rows n left right first);
        })

range_at : (m n : ℕ) → n < m → slice_get (range_with_len 0 m) n ≡ Some n
range_at m n below =
    let long = length-range_with_len 0 m in
    let zero_more : 0 + n ≡ n = omega arith in
    let place : get_or (range_with_len 0 m) n 0 ≡ n = get_or-range_with_len 0 m n 0 below ∙ zero_more in
    slice_get-get_or (range_with_len 0 m) n 0 (omega (arith, long, below)) ∙ ap (λ (k : ℕ). Some k) place

-- what is said of the sectors before one, of that one, and of those after it
abbrev before_it : (ℕ → List ℕ) → ℕ → ℕ → List ℕ
before_it f m n = flat_map f (take n (range_with_len 0 m))

abbrev after_it : (ℕ → List ℕ) → ℕ → ℕ → List ℕ
after_it f m n = flat_map f (drop (suc n) (range_with_len 0 m))

parted : (f : ℕ → List ℕ) (m n : ℕ) → n < m → flat_map f (range_with_len 0 m) ≡ before_it f m n ++ (f n ++ after_it f m n)
parted f m n below =
    ap (flat_map f) (split_at_place (range_with_len 0 m) n n (range_at m n below))
    ∙ flat_map-append f (take n (range_with_len 0 m)) (n ∷ drop (suc n) (range_with_len 0 m))

group_all : (x y a b c d e r z : List ℕ) → x ++ (y ++ ((a ++ b ++ c ++ d ++ e ++ r) ++ z)) ≡ (x ++ y) ++ a ++ b ++ c ++ d ++ e ++ (r ++ z)
group_all x y a b c d e r z = simp append_assoc

-- a text in which that of a sector stands names the sector
names_at : (bytes head front sector back : List ℕ) (n : ℕ) → bytes ≡ head ++ (front ++ (sector ++ back)) → BeginsWith sector n → NamesSector bytes n
names_at bytes head front sector back n text h =
    record {
      before = head ++ front;
      count = h.count;
      rest = h.rest ++ back;
      said =
          text ∙ ap (λ (xs : List ℕ). head ++ (front ++ (xs ++ back))) h.said
          ∙ group_all head front (codes "sector ") (decimal n) (codes ": ") (decimal h.count) (codes " of 512 bytes differ, the first is byte ") h.rest back;
    }

-- what stands before the sectors of a text
abbrev head_text : PlanValue → ℕ → Bool → ChoiceValue → List ℕ
head_text plan bound tears choice = numbered_text plan ++ chosen_text plan bound tears ++ choice_shown plan choice ++ cut_shown plan choice.cut

in_shown : (plan : PlanValue) (bound : ℕ) (tears : Bool) (choice : ChoiceValue) (lefts rights : List (List ℕ)) (n : ℕ) → n < length rights
    → shown_text plan bound tears choice lefts rights
    ≡ head_text plan bound tears choice ++ (before_it (sector_at lefts rights) (length rights) n ++ (sector_at lefts rights n ++ after_it (sector_at lefts rights) (length rights) n))
unfolding shown_text difference_text
in_shown plan bound tears choice lefts rights n below =
    ap (λ (xs : List ℕ). head_text plan bound tears choice ++ xs) (parted (sector_at lefts rights) (length rights) n below)

-- a sector of two devices is the same in both, or a text about them names it
same_or_named : (plan : PlanValue) (bound : ℕ) (tears : Bool) (choice : ChoiceValue) (lefts rights : List (List ℕ)) (bytes : List ℕ) (n : ℕ) (left right : List ℕ)
    → bytes ≡ shown_text plan bound tears choice lefts rights → slice_get lefts n ≡ Some left → slice_get rights n ≡ Some right → length left ≡ 512 → length right ≡ 512
    → (left ≡ right) ⊎ NamesSector bytes n
same_or_named plan bound tears choice lefts rights bytes n left right text here there long wide =
    elim (told n left right long wide) [
      | inl same ↦ inl same
      | inr named ↦
          let at : sector_at lefts rights n ≡ sector_difference n left right = λ i. both_there n (here i) (there i) in
          let whole = text ∙ in_shown plan bound tears choice lefts rights n (slice_get_within rights n right there) in
          inr
          (names_at bytes (head_text plan bound tears choice) (before_it (sector_at lefts rights) (length rights) n) (sector_at lefts rights n)
          (after_it (sector_at lefts rights) (length rights) n) n whole (subst (λ (xs : List ℕ). BeginsWith xs n) (sym at) named))
    ]

-- devices of one size about which a text names no sector are the same
same_devices : (size : ℕ) (lefts rights : List (List ℕ)) (bytes : List ℕ) → length lefts ≡ size → length rights ≡ size
    → ((n : ℕ) (left right : List ℕ) → slice_get lefts n ≡ Some left → slice_get rights n ≡ Some right → (left ≡ right) ⊎ NamesSector bytes n) → NamesNone bytes → rights ≡ lefts
same_devices size lefts rights bytes long wide each silent = same_by_place rights lefts at
  where
    at : (n : ℕ) → slice_get rights n ≡ slice_get lefts n
    at n = elim (cases_lt n size) [
      | inl below ↦
          let right = slice_get-get_or rights n [] (omega (arith, wide, below)) in
          let left = slice_get-get_or lefts n [] (omega (arith, long, below)) in
          elim (each n (get_or lefts n []) (get_or rights n []) left right) [
            | inl same ↦ right ∙ ap (λ (x : List ℕ). Some x) (sym same) ∙ sym left
            | inr named ↦ absurd (silent n named)
          ]
      | inr past ↦
          let right = slice_get_past rights n (omega (arith, wide, past)) in
          let left = slice_get_past lefts n (omega (arith, long, past)) in
          right ∙ sym left
    ]

-- of what `show` answers
of_sector : (text : Recording) (s : Settings) (which : Which) (bytes : List ℕ) (h : IsShown text s which bytes) (n : ℕ) (whole image : List ℕ)
    → slice_get (image_beside text s which bytes h) n ≡ Some whole → slice_get (image_shown text s which bytes h) n ≡ Some image
    → (whole ≡ image) ⊎ NamesSector bytes n
of_sector text s which bytes h n whole image left right =
    same_or_named (plan_of s h.value) s.bound s.tears h.choice (image_beside text s which bytes h) (image_shown text s which bytes h) bytes n whole image h.shown left right
    (device.whole_view (whole_view h.value h.choice.cut) n whole left) (device.whole_view (view_of (plan_of s h.value) h.choice) n image right)

each_named : (text : Recording) (s : Settings) (which : Which) (bytes : List ℕ) (h : IsShown text s which bytes) (n : ℕ) (whole image : List ℕ)
    → slice_get (image_beside text s which bytes h) n ≡ Some whole → slice_get (image_shown text s which bytes h) n ≡ Some image → whole ≢ image
    → NamesSector bytes n
each_named text s which bytes h n whole image left right differ =
    elim (of_sector text s which bytes h n whole image left right) [ inl same ↦ absurd (differ same) | inr named ↦ named ]

none_named : (text : Recording) (s : Settings) (which : Which) (bytes : List ℕ) (h : IsShown text s which bytes) → NamesNone bytes
    → image_shown text s which bytes h ≡ image_beside text s which bytes h
none_named text s which bytes h silent =
    same_devices h.value.sectors (image_beside text s which bytes h) (image_shown text s which bytes h) bytes (device.length_view (whole_view h.value h.choice.cut))
    (device.length_view (view_of (plan_of s h.value) h.choice)) (of_sector text s which bytes h) silent

two_alike : TextOfOneLog → (text : Recording) (s : Settings) (which other : Which) (bytes others : List ℕ) (h : IsShown text s which bytes) (k : IsShown text s other others)
    → h.choice.cut ≡ k.choice.cut → NamesNone bytes → NamesNone others → image_shown text s which bytes h ≡ image_shown text s other others k
two_alike texts text s which other bytes others h k cut silent quiet =
    let value : h.value ≡ k.value = same_log texts text s h.value k.value h.source k.source in
    let beside : image_beside text s which bytes h ≡ image_beside text s other others k = λ i. sectors_of (whole_view (value i) (cut i)) in
    none_named text s which bytes h silent ∙ beside ∙ sym (none_named text s other others k quiet)

pub show_names_differences : TextOfOneLog → ShowNamesDifferences
show_names_differences texts = record { each = each_named; none = none_named; two = two_alike texts }
