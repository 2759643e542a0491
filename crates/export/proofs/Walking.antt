-- The search for an image that is the same, and the walk over all of them.
use Rattle.std.proofs.Common.{ℕ, ◌≡◌, ◌+◌, ◌-◌, ◌<◌, ◌≤◌, ◌^◌, ◌%◌, ◌==◌, Bool, true, false, List, [], ◌∷◌, ◌++◌, length, filter, slice_get, Option, Some, None, refl, sym, ◌∙◌, ap, arith, append_assoc}
use Rattle.std.specs.List.{range_with_len, flat_map}
use Rattle.std.proofs.lemmas.Bool.Decides.{Decides-eqb}
use Rattle.std.proofs.lemmas.Grind.{flat_map-append}
use Rattle.std.proofs.lemmas.List.{append-nil}
use Rattle.base.proofs.Lists.{range_with_len-more}
use Rattle.logfmt.specs.Bounds.{LogValue}
use Rattle.std.proofs.lemmas.Option.{get_or_from_slice_get}
use Rattle.epochs.specs.Units.{marks_at}
use Rattle.epochs.specs.Plan.{PlanValue}
use Rattle.choices.specs.Choices.{ChoiceValue, ranked_choices}
use Rattle.images.specs.Views.{ViewValue, view_of, sectors_of}
use Rattle.images.proofs.Members.{member_cut}
use Rattle.images.specs.Keys.{differs}
use Rattle.images.specs.Whole.{length_view}
use Rattle.export.specs.Export.{AskedValue, no_choice, choice_at, device_at, marks_before, is_same, first_same, image_text}
use Rattle.export.specs.Kept.{sum_of, key_by, key_at, key_after, IsIndex, AreOthers, IsFree, IsAsked}
use Rattle.export.proofs.Same.{same_told, same_if, same_chain, same_back}
use Rattle.export.proofs.Keeping.{nowhere_differs, nothing_differs}
use Rattle.export.proofs.Index.{free_is_new}

-- images with other marks before them aren't the same
pub other_marks : (a : AskedValue) (i j : ℕ) → (marks_before a j ≡ marks_before a i → ⊥) → false ≡ is_same a i j
other_marks a i j other = by (is_same a i j) refl
  where
    by : (b : Bool) → is_same a i j ≡ b → false ≡ b
    by true e = absurd (other (sym (same_told a i j e).0))
    by false e = refl

empty_is : (xs : List ℕ) → (length xs == 0) ≡ true → xs ≡ []
empty_is [] h = refl
empty_is (x ∷ xs) h = let bad = (Decides-eqb (length (x ∷ xs)) 0).0 h in absurd (omega (arith, bad))

-- images with as many marks before them are the same exactly where they differ in no sector
pub same_by_sectors : (a : AskedValue) (i j : ℕ) (one other : ViewValue) (numbers : List ℕ) (empty : Bool) → one.log ≡ a.plan.log → other.log ≡ a.plan.log
    → sectors_of one ≡ device_at a j → sectors_of other ≡ device_at a i → marks_before a j ≡ marks_before a i
    → numbers ≡ filter (differs (sectors_of one) (sectors_of other)) (range_with_len 0 one.log.sectors) → empty ≡ (length numbers == 0) → empty ≡ is_same a i j
same_by_sectors a i j one other numbers empty own log first second marks these is = is ∙ by (length numbers == 0) refl
  where
    count : other.log.sectors ≡ one.log.sectors
    count = ap (λ (l : LogValue). l.sectors) (log ∙ sym own)

    by : (b : Bool) → (length numbers == 0) ≡ b → b ≡ is_same a i j
    by true e =
        let none = empty_is numbers e in
        let alike : sectors_of one ≡ sectors_of other =
        nowhere_differs (sectors_of one) (sectors_of other) one.log.sectors (length_view one) (length_view other ∙ count) (sym these ∙ none) in
        sym (same_if a i j (sym marks) (sym second ∙ sym alike ∙ first))
    by false e = told (is_same a i j) refl
      where
        told : (v : Bool) → is_same a i j ≡ v → false ≡ v
        told false f = refl
        told true f =
            let alike : sectors_of one ≡ sectors_of other = first ∙ sym (same_told a i j f).1 ∙ sym second in
            let none : numbers ≡ [] = these ∙ nothing_differs (sectors_of one) (sectors_of other) one.log.sectors alike in
            absurd (let bad : true ≡ false = sym (ap (λ (ns : List ℕ). length ns == 0) none) ∙ e in cc)

-- the key that follows one by that many steps
pub key_is : (a : AskedValue) (i sum marks key step at : ℕ) → sum ≡ sum_of (device_at a i) → marks ≡ marks_before a i → key ≡ key_by sum marks
    → at ≡ (key + step) % 2 ^ 64 → at ≡ key_after (key_at a i) step
unfolding key_at
key_is a i sum marks key step at s m k is =
    is ∙ ap (λ n. (n + step) % 2 ^ 64) (k ∙ ap (λ n. key_by n marks) s ∙ ap (key_by (sum_of (device_at a i))) m)

pub free_here : (a : AskedValue) (i step key : ℕ) (at : ℕ → Option ℕ) → key ≡ key_after (key_at a i) step → AreOthers a i at step → at key ≡ None → IsFree a i at key
unfolding IsFree
free_here a i step key at is others none = (step, is, others, none)

-- the text of one image more
pub text_more : (a : AskedValue) (n : ℕ) (head before beyond : List ℕ) → before ≡ head ++ flat_map (image_text a) (range_with_len 0 n) → beyond ≡ before ++ image_text a n
    → beyond ≡ head ++ flat_map (image_text a) (range_with_len 0 (n + 1))
text_more a n head before beyond was is =
    let here : 0 + n ≡ n = omega arith in
    is ∙ ap (λ xs. xs ++ image_text a n) was ∙ append_assoc head (flat_map (image_text a) (range_with_len 0 n)) (image_text a n)
    ∙ ap (λ xs. head ++ xs)
    (sym (ap (flat_map (image_text a)) (range_with_len-more 0 n) ∙ flat_map-append (image_text a) (range_with_len 0 n) ((0 + n) ∷ [])
    ∙ ap (λ m. flat_map (image_text a) (range_with_len 0 n) ++ flat_map (image_text a) (m ∷ [])) here
    ∙ ap (λ xs. flat_map (image_text a) (range_with_len 0 n) ++ xs) (append-nil (image_text a n))))

-- the choice at a place, its cut, its marks and its image
choice_there : (a : AskedValue) (i : ℕ) (choice : ChoiceValue) → slice_get (ranked_choices a.plan a.bound a.tears) (a.from + i) ≡ Some choice → choice ≡ choice_at a i
unfolding choice_at
choice_there a i choice there = sym (get_or_from_slice_get (ranked_choices a.plan a.bound a.tears) (a.from + i) choice no_choice there)

pub choice_is : (a : AskedValue) (i : ℕ) (choice : ChoiceValue) → slice_get (ranked_choices a.plan a.bound a.tears) (a.from + i) ≡ Some choice → choice ≡ choice_at a i
choice_is a i choice there = choice_there a i choice there

pub cut_of : (a : AskedValue) (i : ℕ) (choice : ChoiceValue) → slice_get (ranked_choices a.plan a.bound a.tears) (a.from + i) ≡ Some choice → choice.cut ≤ length a.plan.log.entries
cut_of a i choice there = member_cut a.plan choice (record { bound = a.bound; tears = a.tears; number = a.from + i; there = there })

pub marks_are : (a : AskedValue) (i : ℕ) (choice : ChoiceValue) (plan : PlanValue) (cut marks : ℕ) → slice_get (ranked_choices a.plan a.bound a.tears) (a.from + i) ≡ Some choice
    → plan ≡ a.plan → cut ≡ choice.cut → marks ≡ marks_at plan.log.entries cut → marks ≡ marks_before a i
unfolding marks_before
marks_are a i choice plan cut marks there p k is =
    is ∙ ap (λ (q : PlanValue). marks_at q.log.entries cut) p ∙ ap (marks_at a.plan.log.entries) k
    ∙ ap (λ (c : ChoiceValue). marks_at a.plan.log.entries c.cut) (choice_there a i choice there)

pub device_is : (a : AskedValue) (i : ℕ) (choice : ChoiceValue) (plan : PlanValue) (image : ViewValue) → slice_get (ranked_choices a.plan a.bound a.tears) (a.from + i) ≡ Some choice
    → plan ≡ a.plan → image ≡ view_of plan choice → sectors_of image ≡ device_at a i
unfolding device_at
device_is a i choice plan image there p is =
    ap sectors_of (is ∙ ap (λ (q : PlanValue). view_of q choice) p ∙ ap (view_of a.plan) (choice_there a i choice there))

-- a key that is free for an image
pub free_new : (a : AskedValue) (i key : ℕ) (at : ℕ → Option ℕ) → IsIndex a i at → IsFree a i at key → first_same a i ≡ None
unfolding IsFree
free_new a i key at index free = free_is_new a i at free.0 index free.2 (ap at (sym free.1) ∙ free.3)

-- from one choice to the next
pub goes_on : (xs : List ChoiceValue) (n : ℕ) (moved : Bool) (old new : ChoiceValue) → slice_get xs n ≡ Some old → n + 1 < length xs
    → (moved ≡ true → (k : ℕ) → slice_get xs k ≡ Some old → slice_get xs (k + 1) ≡ Some new)
    → (moved ≡ false → (k : ℕ) → slice_get xs k ≡ Some old → k + 1 ≡ length xs) → slice_get xs (n + 1) ≡ Some new
goes_on xs n true old new there lt goes ends = goes refl n there
goes_on xs n false old new there lt goes ends = let end = ends refl n there in absurd (omega (arith, end, lt))

-- the choice after one, as the walk goes on to it
pub next_there : (a : AskedValue) (plan : PlanValue) (bound : ℕ) (tears : Bool) (place count : ℕ) (moved : Bool) (old new : ChoiceValue)
    → plan ≡ a.plan → bound ≡ a.bound → tears ≡ a.tears → IsAsked a → a.from + count ≡ a.to
    → slice_get (ranked_choices a.plan a.bound a.tears) (a.from + place) ≡ Some old
    → (moved ≡ true → (k : ℕ) → slice_get (ranked_choices plan bound tears) k ≡ Some old → slice_get (ranked_choices plan bound tears) (k + 1) ≡ Some new)
    → (moved ≡ false → (k : ℕ) → slice_get (ranked_choices plan bound tears) k ≡ Some old → k + 1 ≡ length (ranked_choices plan bound tears))
    → place + 1 < count → slice_get (ranked_choices a.plan a.bound a.tears) (a.from + (place + 1)) ≡ Some new
next_there a plan bound tears place count moved old new p b t asked size there goes ends lt =
    let ranked : ranked_choices plan bound tears ≡ ranked_choices a.plan a.bound a.tears =
    ap (λ (q : PlanValue). ranked_choices q bound tears) p ∙ ap (λ m. ranked_choices a.plan m tears) b ∙ ap (ranked_choices a.plan a.bound) t in
    let long = ap (λ (cs : List ChoiceValue). length cs) ranked in
    let within = asked.within in
    let step : a.from + (place + 1) ≡ a.from + place + 1 = omega arith in
    ap (slice_get (ranked_choices a.plan a.bound a.tears)) step
    ∙ ap (λ (cs : List ChoiceValue). slice_get cs (a.from + place + 1)) (sym ranked)
    ∙ goes_on (ranked_choices plan bound tears) (a.from + place) moved old new (ap (λ (cs : List ChoiceValue). slice_get cs (a.from + place)) ranked ∙ there)
    (omega (arith, long, within, size, lt)) goes ends

-- whether an image is the same as the first of some that are the same, by the last of them
pub first_told_by_last : (a : AskedValue) (i last first : ℕ) → is_same a last first ≡ true → is_same a i last ≡ is_same a i first
first_told_by_last a i last first same = by (is_same a i last) (is_same a i first) refl refl
  where
    by : (b c : Bool) → is_same a i last ≡ b → is_same a i first ≡ c → b ≡ c
    by true true e f = refl
    by false false e f = refl
    by true false e f = sym (same_chain a i last first e same) ∙ f
    by false true e f = sym e ∙ same_chain a i first last f (same_back a last first same)
