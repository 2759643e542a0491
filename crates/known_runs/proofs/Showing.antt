-- Images one after the other: which are the same, and what is told of each.
use Rattle.std.proofs.Common.{ℕ, zero, suc, nat_eq, ◌≡◌, ◌+◌, ◌<◌, ◌≤◌, ◌==◌, Bool, true, false, ◌&&◌, if◌then◌else◌, List, [], ◌∷◌, ◌++◌, length, map, take, filter, count_by, slice_index_or, Option, None, Some, IfSome, inl, inr, All, codes, refl, sym, subst, ◌∙◌, ap, arith, append_assoc, append-nil}
use Rattle.std.specs.List.{range_with_len, flat_map}
use Rattle.std.specs.Option.{is_none}
use Rattle.std.specs.Cmp.Lexicographic.{pointwise, pointwise_decides}
use Rattle.std.specs.Fmt.{decimal}
use Rattle.std.proofs.lemmas.Bool.{cases_lt}
use Rattle.std.proofs.lemmas.Bool.Decides.{Decides-eqb}
use Rattle.std.proofs.lemmas.Grind.{flat_map-append}
use Rattle.std.proofs.lemmas.List.{get_or_default, length-map}
use Rattle.std.proofs.lemmas.List.Elements.{All-nil, All-cons}
use Rattle.std.proofs.lemmas.List.Sums.{sum_by_push}
use Rattle.std.proofs.lemmas.Option.{slice_get-get_or}
use Rattle.base.proofs.Lists.{range_with_len-more}
use Rattle.logfmt.specs.Bounds.{LogValue}
use Rattle.images.specs.Views.{ViewValue, sectors_of}
use Rattle.images.specs.Keys.{ChangedValue, differs, with_content, changed_sectors, changed_below}
use Rattle.images.specs.Whole.{length_view}
use Rattle.export.specs.Export.{record_text}
use Rattle.export.specs.Kept.{new_text, same_text}
use Rattle.export.proofs.First.{IsFirst, first_is, none_is}
use Rattle.export.proofs.Keeping.{nowhere_differs, nothing_differs, numbers_inside}
use Rattle.known_runs.specs.Wanted.{WantedValue, wanted_case, wanted_at, wanted_in, wanted_view, ExportedValue, initial_view, view_at, marks_of, is_same, first_same, is_new, last_new, head_text, told_text, image_text, new_count}
use Rattle.epochs.specs.declared.part.By.{By}
use Rattle.epochs.specs.Units.{marks_at}
use Rattle.cases.specs.Risk.{parts_at_risk}
use Rattle.known.specs.declared.found.KnownAt.{KnownAt}
use Rattle.known.specs.declared.found.OpenCase.{OpenCase}
use Rattle.known_runs.specs.Imaged.{view_of_case}
use Rattle.known_runs.specs.Showing.{AreOfLog, shown_in}

both : (a b : Bool) → (a && b) ≡ true → (a ≡ true) × (b ≡ true)
both true b h = (refl, h)
both false b h = absurd (let bad : false ≡ true = h in cc)

same_told : (one other : ViewValue) → is_same one other ≡ true → (marks_of one ≡ marks_of other) × (sectors_of one ≡ sectors_of other)
unfolding is_same
same_told one other h =
    let is = both (marks_of one == marks_of other) (pointwise (pointwise nat_eq) (sectors_of one) (sectors_of other)) h in
    ((Decides-eqb (marks_of one) (marks_of other)).0 is.0, (pointwise_decides (pointwise_decides Decides-eqb) (sectors_of one) (sectors_of other)).0 is.1)

same_if : (one other : ViewValue) → marks_of one ≡ marks_of other → sectors_of one ≡ sectors_of other → is_same one other ≡ true
unfolding is_same
same_if one other marks bytes =
    let first = (Decides-eqb (marks_of one) (marks_of other)).1 marks in
    let second = (pointwise_decides (pointwise_decides Decides-eqb) (sectors_of one) (sectors_of other)).1 bytes in
    ap (λ b. b && pointwise (pointwise nat_eq) (sectors_of one) (sectors_of other)) first ∙ second

-- images with other marks before them aren't the same
pub other_marks : (one other : ViewValue) (m n : ℕ) → m ≡ marks_of one → n ≡ marks_of other → (m ≡ n → ⊥) → false ≡ is_same one other
other_marks one other m n first second unlike = by (is_same one other) refl
  where
    by : (b : Bool) → is_same one other ≡ b → false ≡ b
    by true e = absurd (unlike (first ∙ (same_told one other e).0 ∙ sym second))
    by false e = refl

empty_is : (xs : List ℕ) → (length xs == 0) ≡ true → xs ≡ []
empty_is [] h = refl
empty_is (x ∷ xs) h = let bad = (Decides-eqb (length (x ∷ xs)) 0).0 h in absurd (omega (arith, bad))

-- images with as many marks before them are the same exactly where they differ in no sector
pub same_by_sectors : (one other : ViewValue) (m n : ℕ) (numbers : List ℕ) (empty : Bool) → one.log ≡ other.log → m ≡ marks_of one → n ≡ marks_of other → m ≡ n
    → numbers ≡ filter (differs (sectors_of one) (sectors_of other)) (range_with_len 0 one.log.sectors) → empty ≡ (length numbers == 0) → empty ≡ is_same one other
same_by_sectors one other m n numbers empty log first second marks these is = is ∙ by (length numbers == 0) refl
  where
    count : other.log.sectors ≡ one.log.sectors
    count = ap (λ (l : LogValue). l.sectors) (sym log)

    by : (b : Bool) → (length numbers == 0) ≡ b → b ≡ is_same one other
    by true e =
        let none = empty_is numbers e in
        let alike : sectors_of one ≡ sectors_of other =
        nowhere_differs (sectors_of one) (sectors_of other) one.log.sectors (length_view one) (length_view other ∙ count) (sym these ∙ none) in
        sym (same_if one other (sym first ∙ marks ∙ second) alike)
    by false e = told (is_same one other) refl
      where
        told : (v : Bool) → is_same one other ≡ v → false ≡ v
        told false f = refl
        told true f =
            let none : numbers ≡ [] = these ∙ nothing_differs (sectors_of one) (sectors_of other) one.log.sectors (same_told one other f).1 in
            absurd (let bad : true ≡ false = sym (ap (λ (ns : List ℕ). length ns == 0) none) ∙ e in cc)

-- the image at a place, as it is read
pub view_read : (e : ExportedValue) (i : ℕ) (v : ViewValue) → i < length e.views → v ≡ slice_index_or e.views i v → view_at e i ≡ v
view_read e i v lt is = get_or_default e.views i (initial_view e.log) v lt ∙ sym is

-- none of the first that many is the same as the image at a place
abbrev pub NoneSame : ExportedValue → ℕ → ℕ → Type 0
NoneSame e i n = (j : ℕ) → j < n → is_same (view_at e i) (view_at e j) ≡ false

pub none_same_more : (e : ExportedValue) (i n : ℕ) (one other : ViewValue) (b : Bool) → NoneSame e i n → view_at e i ≡ one → view_at e n ≡ other → b ≡ is_same one other → b ≡ false
    → NoneSame e i (n + 1)
none_same_more e i n one other b none first second is fails j lt = elim (cases_lt j n) [
  | inl before ↦ none j before
  | inr past ↦
      let here : j ≡ n = omega (arith, past, lt) in
      ap (λ k. is_same (view_at e i) (view_at e k)) here ∙ (λ t. is_same (first t) (second t)) ∙ sym is ∙ fails
]

pub first_found : (e : ExportedValue) (i n : ℕ) (one other : ViewValue) (b : Bool) → NoneSame e i n → n < i → view_at e i ≡ one → view_at e n ≡ other → b ≡ is_same one other → b ≡ true
    → Some n ≡ first_same e i
unfolding first_same
first_found e i n one other b none less first second is holds =
    sym (first_is (λ j. is_same (view_at e i) (view_at e j)) 0 i n (record {
      low = omega arith;
      high = omega (arith, less);
      passes = (λ t. is_same (first t) (second t)) ∙ sym is ∙ holds;
      before = λ k from lt. none k lt;
    }))

pub none_found : (e : ExportedValue) (i n : ℕ) → NoneSame e i n → i ≤ n → None ≡ first_same e i
unfolding first_same
none_found e i n none past = sym (none_is (λ j. is_same (view_at e i) (view_at e j)) 0 i (λ k low high. none k (omega (arith, high, past))))

-- the records of a new image
pub records_told : (shown image : ViewValue) (numbers out a new line own : List ℕ) (count : ℕ) → count ≡ length numbers → shown.log ≡ image.log
    → numbers ≡ filter (differs (sectors_of shown) (sectors_of image)) (range_with_len 0 shown.log.sectors)
    → own ≡ line ++ (codes " new " ++ decimal count ++ codes "\n") → a ≡ out ++ own
    → new ≡ a ++ flat_map record_text (map (with_content (sectors_of image)) numbers)
    → new ≡ out ++ (line ++ new_text (changed_sectors (sectors_of shown) (sectors_of image)))
unfolding changed_below
records_told shown image numbers out a new line own count counted log these head first more =
    let size : shown.log.sectors ≡ length (sectors_of image) = ap (λ (l : LogValue). l.sectors) log ∙ sym (length_view image) in
    let told : map (with_content (sectors_of image)) numbers ≡ changed_sectors (sectors_of shown) (sectors_of image) =
    ap (map (with_content (sectors_of image))) these ∙ ap (λ n. map (with_content (sectors_of image)) (filter (differs (sectors_of shown) (sectors_of image)) (range_with_len 0 n))) size in
    let many : count ≡ length (changed_sectors (sectors_of shown) (sectors_of image)) =
    counted ∙ sym (length-map numbers (with_content (sectors_of image))) ∙ ap (λ (xs : List ChangedValue). length xs) told in
    let cs : List ChangedValue = changed_sectors (sectors_of shown) (sectors_of image) in
    let mid : List ℕ = codes " new " ++ decimal (length cs) ++ codes "\n" in
    more ∙ (λ i. (first ∙ ap (λ xs. out ++ xs) head) i ++ flat_map record_text (told i))
    ∙ ap (λ (k : ℕ). out ++ (line ++ (codes " new " ++ decimal k ++ codes "\n")) ++ flat_map record_text cs) many
    ∙ append_assoc out (line ++ mid) (flat_map record_text cs) ∙ ap (λ xs. out ++ xs) (append_assoc line mid (flat_map record_text cs))

pub numbers_in : (shown image : ViewValue) (numbers : List ℕ) → shown.log ≡ image.log → numbers ≡ filter (differs (sectors_of shown) (sectors_of image)) (range_with_len 0 shown.log.sectors)
    → All (λ n. n < image.log.sectors) numbers
numbers_in shown image numbers log these i d lt =
    let size : shown.log.sectors ≡ image.log.sectors = ap (λ (l : LogValue). l.sectors) log in
    let low = numbers_inside (differs (sectors_of shown) (sectors_of image)) shown.log.sectors i (slice_index_or numbers i d) numbers these (slice_get-get_or numbers i d lt) in
    omega (arith, low, size)

-- the text of an image
pub same_image : (e : ExportedValue) (i j : ℕ) (one : ViewValue) (out line new : List ℕ) → view_at e i ≡ one → Some j ≡ first_same e i → line ≡ head_text e.way i one
    → new ≡ out ++ (line ++ same_text j) → new ≡ out ++ image_text e i
unfolding image_text
same_image e i j one out line new here found head is =
    is ∙ ap (λ xs. out ++ xs)
    ((λ t. (head ∙ ap (head_text e.way i) (sym here)) t ++ same_text j) ∙ ap (λ (o : Option ℕ). head_text e.way i (view_at e i) ++ told_text (last_new e i) (view_at e i) o) found)

pub new_image : (e : ExportedValue) (i : ℕ) (one shown : ViewValue) (out line new : List ℕ) → view_at e i ≡ one → None ≡ first_same e i → shown ≡ last_new e i → line ≡ head_text e.way i one
    → new ≡ out ++ (line ++ new_text (changed_sectors (sectors_of shown) (sectors_of one))) → new ≡ out ++ image_text e i
unfolding image_text
new_image e i one shown out line new here found last head is =
    is ∙ ap (λ xs. out ++ xs)
    ((λ t. (head ∙ ap (head_text e.way i) (sym here)) t ++ new_text (changed_sectors (sectors_of (last t)) (sectors_of (sym here t))))
    ∙ ap (λ (o : Option ℕ). head_text e.way i (view_at e i) ++ told_text (last_new e i) (view_at e i) o) found)

-- one image after the other
pub record Shows (e : ExportedValue) (initial : ViewValue) (n : ℕ) (old new : List ℕ) (last : Option ℕ) (count : ℕ) : Type 0 where
  pub text : new ≡ old ++ flat_map (image_text e) (range_with_len 0 n)
  pub shown : shown_in e.views initial last ≡ last_new e n
  pub there : IfSome last (λ i. i < length e.views)
  pub counted : count ≡ new_count e n
  pub few : count ≤ n

pub shows_none : (e : ExportedValue) (initial : ViewValue) (old : List ℕ) → initial ≡ initial_view e.log → Shows e initial 0 old old None 0
shows_none e initial old is = record { text = sym (append-nil old); shown = is; there = tt; counted = refl; few = omega arith }

count_more : (p : ℕ → Bool) (n : ℕ) (b : Bool) → p n ≡ b → count_by p (range_with_len 0 (n + 1)) ≡ count_by p (range_with_len 0 n) + (if b then 1 else 0)
count_more p n b is =
    let here : 0 + n ≡ n = omega arith in
    ap (count_by p) (range_with_len-more 0 n ∙ ap (λ (m : ℕ). range_with_len 0 n ++ m ∷ []) here)
    ∙ sum_by_push (λ (m : ℕ). if p m then 1 else 0) (range_with_len 0 n) n ∙ ap (λ (c : Bool). count_by p (range_with_len 0 n) + (if c then 1 else 0)) is

text_more : (e : ExportedValue) (n : ℕ) (old mid new : List ℕ) → mid ≡ old ++ flat_map (image_text e) (range_with_len 0 n) → new ≡ mid ++ image_text e n
    → new ≡ old ++ flat_map (image_text e) (range_with_len 0 (n + 1))
text_more e n old mid new was is =
    let here : 0 + n ≡ n = omega arith in
    is ∙ ap (λ xs. xs ++ image_text e n) was ∙ append_assoc old (flat_map (image_text e) (range_with_len 0 n)) (image_text e n)
    ∙ ap (λ xs. old ++ xs)
    (sym (ap (flat_map (image_text e)) (range_with_len-more 0 n) ∙ flat_map-append (image_text e) (range_with_len 0 n) ((0 + n) ∷ [])
    ∙ ap (λ m. flat_map (image_text e) (range_with_len 0 n) ++ flat_map (image_text e) (m ∷ [])) here
    ∙ ap (λ xs. flat_map (image_text e) (range_with_len 0 n) ++ xs) (append-nil (image_text e n))))

last_more : (e : ExportedValue) (initial : ViewValue) (n : ℕ) (last : Option ℕ) (b : Bool) → initial ≡ initial_view e.log → n < length e.views → shown_in e.views initial last ≡ last_new e n → b ≡ is_new e n
    → shown_in e.views initial (if b then Some n else last) ≡ last_new e (n + 1)
last_more e initial n last true is lt was new =
    let more : n + 1 ≡ suc n = omega arith in
    get_or_default e.views n initial (initial_view e.log) lt ∙ ap (λ c. if c then view_at e n else last_new e n) new ∙ ap (last_new e) (sym more)
last_more e initial n last false is lt was new =
    let more : n + 1 ≡ suc n = omega arith in
    was ∙ ap (λ c. if c then view_at e n else last_new e n) new ∙ ap (last_new e) (sym more)

there_more : (views : List ViewValue) (n : ℕ) (last : Option ℕ) (b : Bool) → n < length views → IfSome last (λ i. i < length views) → IfSome (if b then Some n else last) (λ i. i < length views)
there_more views n last true lt was = lt
there_more views n last false lt was = was

pub shows_more : (e : ExportedValue) (initial : ViewValue) (n : ℕ) (old mid new : List ℕ) (last after : Option ℕ) (count more : ℕ) (b : Bool) → initial ≡ initial_view e.log → n < length e.views
    → Shows e initial n old mid last count → new ≡ mid ++ image_text e n → b ≡ is_new e n → after ≡ (if b then Some n else last) → more ≡ count + (if b then 1 else 0)
    → Shows e initial (n + 1) old new after more
shows_more e initial n old mid new last after count more b is lt s text new_is after_is more_is = record {
  text = text_more e n old mid new s.text text;
  shown = ap (shown_in e.views initial) after_is ∙ last_more e initial n last b is lt s.shown new_is;
  there = subst (λ (o : Option ℕ). IfSome o (λ i. i < length e.views)) (sym after_is) (there_more e.views n last b lt s.there);
  counted = more_is ∙ ap (λ c. c + (if b then 1 else 0)) s.counted ∙ sym (count_more (is_new e) n b (sym new_is));
  few = let was = s.few in one_more b count more n was more_is;
}
  where
    one_more : (b : Bool) (count more n : ℕ) → count ≤ n → more ≡ count + (if b then 1 else 0) → more ≤ n + 1
    one_more true count more n was is = omega (arith, was, is)
    one_more false count more n was is = omega (arith, was, is)

pub shows_all : (e : ExportedValue) (initial : ViewValue) (n : ℕ) (old new : List ℕ) (last : Option ℕ) (count : ℕ) → n ≡ length e.views → Shows e initial n old new last count
    → (new ≡ old ++ flat_map (image_text e) (range_with_len 0 (length e.views))) × (count ≡ new_count e (length e.views))
shows_all e initial n old new last count all s =
    (s.text ∙ ap (λ m. old ++ flat_map (image_text e) (range_with_len 0 m)) all, s.counted ∙ ap (new_count e) all)

-- how many marks stand before the cut of an image, as they are read
pub marks_read : (log : LogValue) (v : ViewValue) (cut marks : ℕ) → v.log ≡ log → cut ≡ v.cut → marks ≡ marks_at log.entries cut → marks ≡ marks_of v
marks_read log v cut marks own at is = is ∙ (λ i. marks_at (sym own i).entries (at i))

-- a line that begins with its head
pub head_begun : (empty line head : List ℕ) → empty ≡ [] → line ≡ empty ++ head → line ≡ head
head_begun empty line head none is = is ∙ ap (λ xs. xs ++ head) none

map_twice : {A B C : Type 0} (f : B → C) (g : A → B) (xs : List A) → map f (map g xs) ≡ map (λ x. f (g x)) xs
map_twice f g [] = refl
map_twice f g (x ∷ xs) = ap (λ ys. f (g x) ∷ ys) (map_twice f g xs)

mapped_append : {A B : Type 0} (f : A → B) (xs ys : List A) → map f (xs ++ ys) ≡ map f xs ++ map f ys
mapped_append f [] ys = refl
mapped_append f (x ∷ xs) ys = ap (λ zs. f x ∷ zs) (mapped_append f xs ys)

-- the images of the open cases of one more cut
pub images_more : (log : LogValue) (way : By) (tears : Bool) (fs : List KnownAt) (n : ℕ) (x y : KnownAt) (old new : List ViewValue) (cases : List OpenCase) → take (n + 1) fs ≡ take n fs ++ x ∷ [] → y ≡ x
    → old ≡ map (wanted_view log way) (wanted_in log way tears (take n fs)) → cases ≡ y.open_cases.items
    → new ≡ old ++ map (λ (o : OpenCase). wanted_view log way (wanted_case log way tears y.cut o.sets.items)) cases
    → new ≡ map (wanted_view log way) (wanted_in log way tears (take (n + 1) fs))
images_more log way tears fs n x y old new cases more same was those is =
    let V : List WantedValue → List ViewValue = map (wanted_view log way) in
    let front : List WantedValue = wanted_in log way tears (take n fs) in
    let own : map (λ (o : OpenCase). wanted_view log way (wanted_case log way tears y.cut o.sets.items)) cases ≡ V (wanted_at log way tears x) =
    ap (map (λ (o : OpenCase). wanted_view log way (wanted_case log way tears y.cut o.sets.items))) those
    ∙ sym (map_twice (wanted_view log way) (λ (o : OpenCase). wanted_case log way tears y.cut o.sets.items) y.open_cases.items) ∙ ap (λ (f : KnownAt). V (wanted_at log way tears f)) same in
    let whole : wanted_in log way tears (take (n + 1) fs) ≡ front ++ wanted_at log way tears x =
    ap (wanted_in log way tears) more ∙ flat_map-append (wanted_at log way tears) (take n fs) (x ∷ []) ∙ ap (λ (ws : List WantedValue). front ++ ws) (append-nil (wanted_at log way tears x)) in
    is ∙ (λ i. was i ++ own i) ∙ sym (mapped_append (wanted_view log way) front (wanted_at log way tears x)) ∙ ap V (sym whole)

-- all images are of one log
mapped_of_log : (log : LogValue) (way : By) (ws : List WantedValue) → AreOfLog log (map (wanted_view log way) ws)
mapped_of_log log way [] = All-nil (λ (v : ViewValue). v.log ≡ log)
mapped_of_log log way (w ∷ ws) = All-cons (λ (v : ViewValue). v.log ≡ log) (wanted_view log way w) (map (wanted_view log way) ws) refl (mapped_of_log log way ws)

pub all_of_log : (log : LogValue) (way : By) (tears : Bool) (found : List KnownAt) → AreOfLog log (map (wanted_view log way) (wanted_in log way tears found))
all_of_log log way tears found = mapped_of_log log way (wanted_in log way tears found)

-- nothing is at risk at cut 0
pub first_view : (log : LogValue) (way : By) (tears : Bool) (sets : List ℕ) → view_of_case (record { log = log; way = way; cut = 0 }) tears sets ≡ initial_view log
unfolding parts_at_risk
first_view log way tears sets = refl
