-- What is kept before the first image, and after one more.
use Rattle.std.proofs.Common.{ℕ, zero, suc, nat_eq, ◌≡◌, ◌+◌, ◌<◌, ◌≤◌, ◌==◌, Bool, true, false, not, cond, if◌then◌else◌, List, [], ◌∷◌, ◌++◌, length, map, filter, slice_get, sum_by, Option, Some, None, refl, sym, subst, ◌∙◌, ap, inl, inr, arith, add-one}
use Rattle.std.specs.List.{range_with_len}
use Rattle.std.specs.HashMap.{HashMap, IsEmpty, get}
use Rattle.std.specs.Cmp.Lexicographic.{pointwise_decides}
use Rattle.std.proofs.lemmas.Bool.Decides.{Decides-eqb, eqb_tells}
use Rattle.std.proofs.lemmas.List.{same_lists, get_or_default, length-append}
use Rattle.std.proofs.lemmas.List.Elements.{filter-append}
use Rattle.std.proofs.lemmas.Option.{get_or_from_slice_get, slice_get_within, same_Some}
use Rattle.base.proofs.Lists.{range_with_len-more}
use Rattle.logfmt.specs.Bounds.{LogValue}
use Rattle.images.specs.Views.{ViewValue, sectors_of}
use Rattle.images.specs.Keys.{content_at, differs, with_content, changed_below}
use Rattle.images.specs.Whole.{length_view}
use Rattle.export.specs.Export.{AskedValue, device_at, is_same, first_same, is_new, initial_device, last_new, records_at, new_count}
use Rattle.std.specs.Option.{option_map}
use Rattle.std.proofs.lemmas.Bool.{eq-eqb, ne_eqb}
use Rattle.export.specs.declared.walk.KeptImage.{KeptImage}
use Rattle.export.specs.Kept.{weight, weight_at, sum_of, key_at, key_after, firsts, IsIndex, IsFree, IsNext, AreRecords, IsKept}
use Rattle.export.proofs.First.{none_first}
use Rattle.export.proofs.Same.{same_if, told_first, new_flag, same_flag}
use Rattle.export.proofs.Numbers.{kept_of}
use Rattle.export.proofs.Unlike.{starts}
use Rattle.export.proofs.Moves.{sums_move}
use Rattle.export.proofs.Index.{none_kept, index_stays, index_more, free_is_new}
use Rattle.export.proofs.Readers.{unchanged, new_shows, same_shows, length-device}

-- before the first image
pub first_kept : (a : AskedValue) (shown near : ViewValue) (own fresh : ℕ) (at : ℕ → Option KeptImage) → shown ≡ record { log = a.plan.log; cut = 0; departures = [] }
    → near.log ≡ a.plan.log → own ≡ sum_of (sectors_of near) → fresh ≡ 0 → ((k : ℕ) → at k ≡ None) → IsKept a 0 shown near own fresh at
unfolding initial_device last_new new_count
first_kept a shown near own fresh at is beside sum none empty = record {
  log = ap (λ (v : ViewValue). v.log) is;
  device = ap sectors_of is ∙ starts a.plan.log;
  beside = beside;
  sum = sum;
  count = none;
  few = omega (arith, none);
  held = record {
    index = none_kept a (firsts at) (λ k. ap (option_map (λ (h : KeptImage). h.first)) (empty k));
    recent = λ k h there. absurd (let bad : None ≡ Some h = sym (empty k) ∙ there in cc);
  };
}

-- sectors of one content have one weight
weights_alike : (one other : List (List ℕ)) (n : ℕ) → content_at one n ≡ content_at other n → weight_at one n ≡ weight_at other n
unfolding weight_at
weights_alike one other n same = ap (weight n) same

-- the sum by which an image is found, by the sectors in which it differs
pub sum_moves : (one other : ViewValue) (numbers : List ℕ) (own old new : ℕ) → one.log ≡ other.log
    → numbers ≡ filter (differs (sectors_of one) (sectors_of other)) (range_with_len 0 one.log.sectors)
    → own ≡ sum_of (sectors_of one) → old ≡ sum_by (weight_at (sectors_of one)) numbers → new ≡ sum_by (weight_at (sectors_of other)) numbers
    → sum_of (sectors_of other) + old ≡ own + new
unfolding sum_of
sum_moves one other numbers own old new log is own_is old_is new_is =
    let f : ℕ → ℕ = weight_at (sectors_of one) in
    let g : ℕ → ℕ = weight_at (sectors_of other) in
    let d : ℕ → Bool = differs (sectors_of one) (sectors_of other) in
    let all : List ℕ = range_with_len 0 one.log.sectors in
    let moves = sums_move f g d all (λ n alike. weights_alike (sectors_of one) (sectors_of other) n (unchanged (sectors_of one) (sectors_of other) n alike)) in
    let first : own ≡ sum_by f all = own_is ∙ ap (λ k. sum_by f (range_with_len 0 k)) (length_view one) in
    let whole : sum_by g (range_with_len 0 (length (sectors_of other))) ≡ sum_by g all =
    ap (λ k. sum_by g (range_with_len 0 k)) (length_view other ∙ sym (ap (λ (l : LogValue). l.sectors) log)) in
    let before : old ≡ sum_by f (filter d all) = old_is ∙ ap (sum_by f) is in
    let beyond : new ≡ sum_by g (filter d all) = new_is ∙ ap (sum_by g) is in
    omega (arith, moves, first, whole, before, beyond)

-- numbers of sectors of a device
pub numbers_inside : (p : ℕ → Bool) (count k n : ℕ) (xs : List ℕ) → xs ≡ filter p (range_with_len 0 count) → slice_get xs k ≡ Some n → n < count
numbers_inside p count k n xs is there =
    let Q : List ℕ → Type 0 = λ ys. slice_get ys k ≡ Some n in
    let own = subst Q is there in
    let within = slice_get_within (filter p (range_with_len 0 count)) k n own in
    let low = kept_of (λ m. m < count) p 0 count (λ m low high. omega (arith, high)) k 0 within in
    let read = get_or_from_slice_get (filter p (range_with_len 0 count)) k n 0 own in
    omega (arith, low, read)

-- devices that differ nowhere
pub nowhere_differs : (base image : List (List ℕ)) (count : ℕ) → length base ≡ count → length image ≡ count → filter (differs base image) (range_with_len 0 count) ≡ [] → base ≡ image
nowhere_differs base image count long size none =
    let first : slice_get (filter (differs base image) (range_with_len 0 count)) 0 ≡ None = ap (λ (ns : List ℕ). slice_get ns 0) none in
    same_lists base image (long ∙ sym size) (λ k d lt.
    get_or_default base k d [] lt ∙ unchanged base image k (none_first (differs base image) 0 count k first (omega arith) (omega (arith, lt, long)))
    ∙ sym (get_or_default image k d [] (omega (arith, lt, long, size))))

-- a device doesn't differ from itself
unlike_itself : (image : List (List ℕ)) (n : ℕ) → differs image image n ≡ false
unfolding differs
unlike_itself image n = ap not ((pointwise_decides Decides-eqb (content_at image n) (content_at image n)).1 refl)

pub nothing_differs : (base image : List (List ℕ)) (count : ℕ) → base ≡ image → filter (differs base image) (range_with_len 0 count) ≡ []
nothing_differs base image count same = ap (λ (d : List (List ℕ)). filter (differs d image) (range_with_len 0 count)) same ∙ none image 0 count
  where
    none : (image : List (List ℕ)) (a k : ℕ) → filter (differs image image) (range_with_len a k) ≡ []
    none image a zero = refl
    none image a (suc k) =
        ap (λ b. cond b (a ∷ filter (differs image image) (range_with_len (a + 1) k)) (filter (differs image image) (range_with_len (a + 1) k))) (unlike_itself image a)
        ∙ none image (a + 1) k

-- the records of an image
pub records_are : (a : AskedValue) (i : ℕ) (shown image : ViewValue) (numbers : List ℕ) → shown.log ≡ a.plan.log → image.log ≡ a.plan.log
    → sectors_of shown ≡ last_new a i → sectors_of image ≡ device_at a i
    → numbers ≡ filter (differs (sectors_of shown) (sectors_of image)) (range_with_len 0 shown.log.sectors) → AreRecords a i image numbers
unfolding records_at changed_below
records_are a i shown image numbers own log was is these =
    let here : shown.log.sectors ≡ a.plan.log.sectors = ap (λ (l : LogValue). l.sectors) own in
    let there : image.log.sectors ≡ a.plan.log.sectors = ap (λ (l : LogValue). l.sectors) log in
    record {
      inside = λ k n at.
          let lt = numbers_inside (differs (sectors_of shown) (sectors_of image)) shown.log.sectors k n numbers these at in
          omega (arith, lt, here, there);
      told =
          ap (map (with_content (sectors_of image))) these
          ∙ ap (λ (d : List (List ℕ)). map (with_content d) (filter (differs (sectors_of shown) d) (range_with_len 0 shown.log.sectors))) is
          ∙ ap (λ (d : List (List ℕ)). map (with_content (device_at a i)) (filter (differs d (device_at a i)) (range_with_len 0 shown.log.sectors))) was
          ∙ ap (λ n. map (with_content (device_at a i)) (filter (differs (last_new a i) (device_at a i)) (range_with_len 0 n))) (here ∙ sym (length-device a i));
      none = λ empty.
          sym was ∙ nowhere_differs (sectors_of shown) (sectors_of image) shown.log.sectors (length_view shown) (length_view image ∙ there ∙ sym here) (sym these ∙ empty) ∙ is;
    }

-- one image more is counted
counted : (a : AskedValue) (n : ℕ) (b : Bool) → is_new a n ≡ b → new_count a (n + 1) ≡ new_count a n + (if b then 1 else 0)
unfolding new_count
counted a n b is =
    let here : 0 + n ≡ n = omega arith in
    let front : List ℕ = filter (is_new a) (range_with_len 0 n) in
    let one : filter (is_new a) (range_with_len 0 (n + 1)) ≡ front ++ cond b (n ∷ []) [] =
    ap (filter (is_new a)) (range_with_len-more 0 n) ∙ filter-append (is_new a) (range_with_len 0 n) ((0 + n) ∷ [])
    ∙ ap (λ m. front ++ cond (is_new a m) (m ∷ []) []) here ∙ ap (λ c. front ++ cond c (n ∷ []) []) is in
    ap length one ∙ length-append front (cond b (n ∷ []) []) ∙ ap (λ k. length front + k) (lone b)
  where
    lone : (b : Bool) → length (cond b (n ∷ []) []) ≡ (if b then 1 else 0)
    lone true = refl
    lone false = refl

-- an image is the same as itself
same_itself : (a : AskedValue) (i : ℕ) → is_same a i i ≡ true
same_itself a i = same_if a i i refl refl

-- what stands at a key after one was put there
put_first : (at : ℕ → Option KeptImage) (key q : ℕ) (held : KeptImage) (b : Bool) → option_map (λ (h : KeptImage). h.first) (cond b (Some held) (at q)) ≡ cond b (Some held.first) (firsts at q)
put_first at key q held true = refl
put_first at key q held false = refl

stays_first : (at : ℕ → Option KeptImage) (key q : ℕ) (held : KeptImage) → firsts at key ≡ Some held.first → cond (key == q) (Some held.first) (firsts at q) ≡ firsts at q
stays_first at key q held there = elim (eqb_tells key q) [
  | inl same ↦ ap (λ b. cond b (Some held.first) (firsts at q)) (eq-eqb key q same.1) ∙ sym there ∙ ap (firsts at) same.1
  | inr other ↦ ap (λ b. cond b (Some held.first) (firsts at q)) (ne_eqb key q other.1)
]

-- one is the last that is the same as the first
recent_put : (a : AskedValue) (i key : ℕ) (at after : ℕ → Option KeptImage) (held : KeptImage) → ((q : ℕ) → after q ≡ cond (key == q) (Some held) (at q))
    → ((k : ℕ) (h : KeptImage) → at k ≡ Some h → (h.last < i) × (is_same a h.last h.first ≡ true)) → held.last ≡ i → is_same a i held.first ≡ true
    → (k : ℕ) (h : KeptImage) → after k ≡ Some h → (h.last < i + 1) × (is_same a h.last h.first ≡ true)
recent_put a i key at after held put recent last same k h there = elim (eqb_tells key k) [
  | inl here ↦
      let is : held ≡ h = same_Some held h (sym (put k ∙ ap (λ b. cond b (Some held) (at k)) (eq-eqb key k here.1)) ∙ there) in
      let P : KeptImage → Type 0 = λ x. (x.last < i + 1) × (is_same a x.last x.first ≡ true) in
      subst P is (omega (arith, last), ap (λ n. is_same a n held.first) last ∙ same)
  | inr other ↦
      let was = recent k h (sym (put k ∙ ap (λ b. cond b (Some held) (at k)) (ne_eqb key k other.1)) ∙ there) in
      let lt = was.0 in
      (omega (arith, lt), was.1)
]

-- after an image that isn't new
pub kept_same : (a : AskedValue) (i key : ℕ) (shown near new : ViewValue) (own sum fresh marks : ℕ) (at after : ℕ → Option KeptImage) (held : KeptImage)
    → IsKept a i shown near own fresh at → IsNext a i new marks sum → held.last ≡ i → first_same a i ≡ Some held.first → firsts at key ≡ Some held.first
    → ((q : ℕ) → after q ≡ cond (key == q) (Some held) (at q)) → IsKept a (i + 1) shown new sum fresh after
kept_same a i key shown near new own sum fresh marks at after held is next last same there put =
    let stays : last_new a (i + 1) ≡ last_new a i = ap (last_new a) (add-one i) ∙ same_shows a i held.first same in
    let few = is.few in
    let alike : firsts at ≡ firsts after =
    λ j q. sym (ap (option_map (λ (h : KeptImage). h.first)) (put q) ∙ put_first at key q held (key == q) ∙ stays_first at key q held there) j in
    record {
      log = is.log;
      device = is.device ∙ sym stays;
      beside = next.log;
      sum = next.sum_is ∙ ap sum_of (sym next.device);
      count = is.count ∙ sym (let one = counted a i false (same_flag a i held.first same) in omega (arith, one));
      few = omega (arith, few);
      held = record {
        index = subst (IsIndex a (i + 1)) alike (index_stays a i held.first (firsts at) is.held.index same);
        recent = recent_put a i key at after held put is.held.recent last (told_first a i held.first same).passes;
      };
    }

-- after one that is
pub kept_new : (a : AskedValue) (i key : ℕ) (shown near new next_shown : ViewValue) (own sum fresh marks : ℕ) (at after : ℕ → Option KeptImage) (held : KeptImage)
    → IsKept a i shown near own fresh at → IsNext a i new marks sum → next_shown.log ≡ a.plan.log → sectors_of next_shown ≡ device_at a i
    → IsFree a i (firsts at) key → held.first ≡ i → held.last ≡ i
    → ((q : ℕ) → after q ≡ cond (key == q) (Some held) (at q)) → IsKept a (i + 1) next_shown new sum (fresh + 1) after
unfolding IsFree
kept_new a i key shown near new next_shown own sum fresh marks at after held is next log device free first last put =
    let steps : ℕ = free.0 in
    let here : key ≡ key_after (key_at a i) steps = free.1 in
    let none : firsts at (key_after (key_at a i) steps) ≡ None = ap (firsts at) (sym here) ∙ free.3 in
    let fresh_is : first_same a i ≡ None = free_is_new a i (firsts at) steps is.held.index free.2 none in
    let shows : last_new a (i + 1) ≡ device_at a i = ap (last_new a) (add-one i) ∙ new_shows a i fresh_is in
    let few = is.few in
    record {
      log = log;
      device = device ∙ sym shows;
      beside = next.log;
      sum = next.sum_is ∙ ap sum_of (sym next.device);
      count = ap (λ n. n + 1) is.count ∙ sym (counted a i true (new_flag a i fresh_is));
      few = omega (arith, few);
      held = record {
        index = index_more a i (firsts at) (firsts after) steps is.held.index free.2 none
            (λ q. ap (option_map (λ (h : KeptImage). h.first)) (put q) ∙ put_first at key q held (key == q) ∙ ap (λ n. cond (key == q) (Some n) (firsts at q)) first
            ∙ ap (λ k. cond (k == q) (Some i) (firsts at q)) here);
        recent = recent_put a i key at after held put is.held.recent last (ap (is_same a i) first ∙ same_itself a i);
      };
    }

-- that many numbers at most
pub few_of_range : (p : ℕ → Bool) (count : ℕ) (xs : List ℕ) → xs ≡ filter p (range_with_len 0 count) → length xs ≤ count
few_of_range p count xs is =
    let long = ap length is in
    let few = at_most p 0 count in
    omega (arith, long, few)
  where
    at_most : (p : ℕ → Bool) (a k : ℕ) → length (filter p (range_with_len a k)) ≤ k
    at_most p a zero = omega arith
    at_most p a (suc k) =
        let rest = at_most p (a + 1) k in
        let by : (b : Bool) → length (cond b (a ∷ filter p (range_with_len (a + 1) k)) (filter p (range_with_len (a + 1) k))) ≤ suc k =
        λ b. elim b as (λ c. length (cond c (a ∷ filter p (range_with_len (a + 1) k)) (filter p (range_with_len (a + 1) k))) ≤ suc k) [
          | true ↦ omega (arith, rest)
          | false ↦ omega (arith, rest)
        ] in
        by (p a)

-- a map without entries
pub none_at : {S : Type 0} (m : HashMap ℕ KeptImage S) → IsEmpty m → (k : ℕ) → get nat_eq m k ≡ None
none_at m empty k = rw empty refl
