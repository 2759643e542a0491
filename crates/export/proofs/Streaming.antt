-- What is put after what.
use Rattle.std.proofs.Common.{ℕ, ◌≡◌, ◌==◌, ◌<◌, ◌+◌, ◌-◌, Bool, true, false, List, [], ◌∷◌, ◌++◌, length, map, take, drop, slice_get, Option, None, Some, Result, Ok, Err, OnOk, OnErr, refl, sym, ◌∙◌, ap, subst, inl, inr, append_assoc, length-append, arith}
use Rattle.std.proofs.lemmas.List.{append-nil, take-append-drop, length-drop, take_at, take_more, map-append}
use Rattle.std.proofs.lemmas.Bool.{ne_eqb}
use Rattle.std.proofs.lemmas.Bool.Decides.{eqb_tells}
use Rattle.std.proofs.Math.Seq.{take-length}
use Rattle.std.specs.Io.KnownBytes.{Appends, Keeps}
use Rattle.std.specs.List.{flat_map, slice_index_or}
use Rattle.std.proofs.lemmas.Option.{get_or_from_slice_get}
use Rattle.base.specs.Numbers.{number_bytes}
use Rattle.images.specs.Keys.{with_content}
use Rattle.export.specs.Export.{record_text}
use Rattle.std.proofs.lemmas.Grind.{flat_map-append}
use Rattle.export.specs.Streaming.{StreamValue, stream_of, Puts, goes_on, stops, stopped, PutsAll, PutsPart, TakesPart}
use Rattle.export.proofs.Appending.{appended_twice, keeps_appended}

-- nothing
pub nothing_kept : (known : Option (List ℕ)) → Keeps known known
nothing_kept None = tt
nothing_kept (Some xs) = refl

pub nothing_appended : (known : Option (List ℕ)) → Appends known known []
nothing_appended None = tt
nothing_appended (Some xs) = sym (append-nil xs)

kept_twice : (a b c : Option (List ℕ)) → Keeps a b → Keeps b c → Keeps a c
kept_twice None b c p q = tt
kept_twice (Some x) None c p q = absurd p
kept_twice (Some x) (Some y) None p q = absurd q
kept_twice (Some x) (Some y) (Some z) p q = q ∙ p

pub puts_nothing : (contents : Option (List ℕ)) (waiting : List ℕ) (closed : Bool) → Puts (stream_of contents waiting closed) (stream_of contents waiting closed) []
puts_nothing contents waiting true = stopped refl refl (nothing_kept contents)
puts_nothing contents waiting false = goes_on [] refl refl (nothing_appended contents) (append-nil waiting)

pub puts_empty : (contents : Option (List ℕ)) (waiting : List ℕ) (closed : Bool) (bytes : List ℕ) → bytes ≡ [] → Puts (stream_of contents waiting closed) (stream_of contents waiting closed) bytes
puts_empty contents waiting closed bytes none = subst (Puts (stream_of contents waiting closed) (stream_of contents waiting closed)) (sym none) (puts_nothing contents waiting closed)

no_length : (xs : List ℕ) → length xs ≡ 0 → xs ≡ []
no_length [] none = refl
no_length (x ∷ xs) none = absurd (let bad : length (x ∷ xs) ≡ 0 = none in omega (arith, bad))

zero_length : (n : ℕ) → true ≡ (n == 0) → n ≡ 0
zero_length n e = elim (eqb_tells n 0) [
  | inl same ↦ same.1
  | inr unlike ↦ absurd (let bad : true ≡ false = e ∙ ne_eqb n 0 unlike.1 in cc)
]

pub puts_none : (contents : Option (List ℕ)) (waiting : List ℕ) (closed : Bool) (bytes : List ℕ) → true ≡ (length bytes == 0) → Puts (stream_of contents waiting closed) (stream_of contents waiting closed) bytes
puts_none contents waiting closed bytes none = puts_empty contents waiting closed bytes (no_length bytes (zero_length (length bytes) none))

-- some, and then more
grouped : (w xs ys m rest : List ℕ) → w ++ xs ≡ m ++ rest → w ++ (xs ++ ys) ≡ m ++ (rest ++ ys)
grouped w xs ys m rest is = sym (append_assoc w xs ys) ∙ ap (λ l. l ++ ys) is ∙ append_assoc m rest ys

regrouped : (w xs ys m n here there : List ℕ) → w ++ xs ≡ m ++ here → here ++ ys ≡ n ++ there → w ++ (xs ++ ys) ≡ (m ++ n) ++ there
regrouped w xs ys m n here there first second = grouped w xs ys m here first ∙ ap (λ l. m ++ l) second ∙ sym (append_assoc m n there)

more_than_none : (xs ys : List ℕ) → 0 < length xs → 0 < length (xs ++ ys)
more_than_none xs ys some = omega (arith, length-append xs ys, some)

not_both : (b : Bool) → b ≡ true → b ≡ false → ⊥
not_both b one other = let bad : true ≡ false = sym one ∙ other in cc

pub puts_more : (a b c : StreamValue) (xs ys : List ℕ) → Puts a b xs → Puts b c ys → Puts a c (xs ++ ys)
puts_more a b c xs ys (goes_on m ao bo w is) (goes_on n bo2 co w2 is2) =
    goes_on (m ++ n) ao co (appended_twice a.contents b.contents c.contents m n w w2) (regrouped a.waiting xs ys m n b.waiting c.waiting is is2)
puts_more a b c xs ys (goes_on m ao bo w is) (stops n rest bo2 cc w2 is2 some) =
    stops (m ++ n) rest ao cc (appended_twice a.contents b.contents c.contents m n w w2) (regrouped a.waiting xs ys m n b.waiting rest is is2) some
puts_more a b c xs ys (goes_on m ao bo w is) (stopped bc cc k) = absurd (not_both b.closed bc bo)
puts_more a b c xs ys (stops m rest ao bc w is some) (goes_on n bo co w2 is2) = absurd (not_both b.closed bc bo)
puts_more a b c xs ys (stops m rest ao bc w is some) (stops n rest2 bo cc w2 is2 some2) = absurd (not_both b.closed bc bo)
puts_more a b c xs ys (stops m rest ao bc w is some) (stopped bc2 cc k) =
    stops m (rest ++ ys) ao cc (keeps_appended a.contents b.contents c.contents m w k) (grouped a.waiting xs ys m rest is) (more_than_none rest ys some)
puts_more a b c xs ys (stopped ac bc k) (goes_on n bo co w2 is2) = absurd (not_both b.closed bc bo)
puts_more a b c xs ys (stopped ac bc k) (stops n rest bo cc w2 is2 some) = absurd (not_both b.closed bc bo)
puts_more a b c xs ys (stopped ac bc k) (stopped bc2 cc k2) = stopped ac cc (kept_twice a.contents b.contents c.contents k k2)

pub puts_and_writes : (a b c : StreamValue) (xs : List ℕ) → Puts a b xs → Puts b c [] → Puts a c xs
puts_and_writes a b c xs p q = subst (Puts a c) (append-nil xs) (puts_more a b c xs [] p q)

-- what waited was written
pub all_written : (before after : Option (List ℕ)) (waiting bytes left : List ℕ) (was is : Bool) → was ≡ false → is ≡ false → bytes ≡ waiting → Appends before after bytes → left ≡ []
    → Puts (stream_of before waiting was) (stream_of after left is) []
all_written before after waiting bytes left was is wo io same w none =
    goes_on waiting wo io (subst (Appends before after) same w) (ap (λ l. waiting ++ l) (sym none))

-- or the first bytes of it
pub part_written : (before after : Option (List ℕ)) (waiting bytes left : List ℕ) (was is : Bool) (n : ℕ) → was ≡ false → is ≡ true → bytes ≡ waiting
    → (n < length bytes) × Appends before after (take n bytes) → Puts (stream_of before waiting was) (stream_of after left is) []
part_written before after waiting bytes left was is n wo ic same w =
    let below : n < length waiting = subst (λ (l : List ℕ). n < length l) same w.0 in
    stops (take n waiting) (drop n waiting) wo ic (subst (λ (l : List ℕ). Appends before after (take n l)) same w.1)
    (append-nil waiting ∙ sym (take-append-drop n waiting)) (omega (arith, below, length-drop n waiting))

-- bytes wait
pub waits : (before : Option (List ℕ)) (waiting left bytes : List ℕ) (was : Bool) → was ≡ false → left ≡ waiting ++ bytes → Puts (stream_of before waiting was) (stream_of before left was) bytes
waits before waiting left bytes was wo is = goes_on [] wo wo (nothing_appended before) (sym is)

-- there is no memory for them
pub is_given_up : {W : Type 0} (contents : W → Option (List ℕ)) (before after : W) (waiting left bytes : List ℕ) (was is : Bool) → was ≡ false → is ≡ true → after ≡ before → 0 < length bytes
    → Puts (stream_of (contents before) waiting was) (stream_of (contents after) left is) bytes
is_given_up contents before after waiting left bytes was is wo ic same some =
    stops [] (waiting ++ bytes) wo ic (subst (λ w. Appends (contents before) (contents w) []) (sym same) (nothing_appended (contents before))) refl
    (omega (arith, length-append waiting bytes, some))

-- the elements of a list, one more
pub one_more : {A B : Type 0} (f : B → List ℕ) (g : A → B) (xs : List A) (i : ℕ) (d : A) → i < length xs
    → flat_map f (map g (take i xs)) ++ f (g (slice_index_or xs i d)) ≡ flat_map f (map g (take (i + 1) xs))
one_more f g xs i d below =
    let x : _ = slice_index_or xs i d in
    sym (ap (λ l. flat_map f (map g l)) (take_more xs i d below) ∙ ap (flat_map f) (map-append g (take i xs) (x ∷ [])) ∙ flat_map-append f (map g (take i xs)) (g x ∷ [])
    ∙ ap (λ l. flat_map f (map g (take i xs)) ++ l) (append-nil (f (g x))))

pub puts_one_more : {A B : Type 0} (f : B → List ℕ) (g : A → B) (xs : List A) (i : ℕ) (d : A) (a b c : StreamValue) → i < length xs
    → Puts a b (flat_map f (map g (take i xs))) → Puts b c (f (g (slice_index_or xs i d))) → Puts a c (flat_map f (map g (take (i + 1) xs)))
puts_one_more f g xs i d a b c below p q = subst (Puts a c) (one_more f g xs i d below) (puts_more a b c (flat_map f (map g (take i xs))) (f (g (slice_index_or xs i d))) p q)

-- of a text the writer has the first bytes
first_bytes : (before after : Option (List ℕ)) (text moved rest : List ℕ) → text ≡ moved ++ rest → 0 < length rest → Appends before after moved → TakesPart before after text
first_bytes before after text moved rest is some w = (
  length moved,
  omega (arith, ap (λ (l : List ℕ). length l) is, length-append moved rest, some),
  subst (Appends before after) (sym (ap (take (length moved)) is ∙ take_at moved rest (length moved) refl)) w,
)

pub part_taken : (before after : Option (List ℕ)) (waiting left : List ℕ) (was is : Bool) (text : List ℕ) → was ≡ false → waiting ≡ []
    → PutsPart (stream_of before waiting was) (stream_of after left is) text → TakesPart before after text
part_taken before after waiting left was is text wo none p = by p.puts
  where
    begins : (moved rest : List ℕ) → waiting ++ p.shown ≡ moved ++ rest → text ≡ moved ++ (rest ++ p.rest)
    begins moved rest e = sym p.whole ∙ ap (λ (l : List ℕ). l ++ p.rest) (ap (λ (l : List ℕ). l ++ p.shown) (sym none) ∙ e) ∙ append_assoc moved rest p.rest

    by : Puts (stream_of before waiting was) (stream_of after left is) p.shown → TakesPart before after text
    by (goes_on moved ao bo w e) = elim p.part [
      | inl some ↦ first_bytes before after text moved (left ++ p.rest) (begins moved left e) (omega (arith, length-append left p.rest, some)) w
      | inr closed ↦ absurd (not_both is closed bo)
    ]
    by (stops moved rest ao bc w e some) = first_bytes before after text moved (rest ++ p.rest) (begins moved rest e) (omega (arith, length-append rest p.rest, some)) w
    by (stopped ac bc k) = absurd (not_both was ac wo)

pub all_taken : (before after : Option (List ℕ)) (waiting left : List ℕ) (was is : Bool) (text : List ℕ) → was ≡ false → waiting ≡ []
    → PutsAll (stream_of before waiting was) (stream_of after left is) text → Appends before after text
all_taken before after waiting left was is text wo none p = by p.0
  where
    by : Puts (stream_of before waiting was) (stream_of after left is) text → Appends before after text
    by (goes_on moved ao bo w e) =
        subst (Appends before after) (sym (ap (λ (l : List ℕ). l ++ text) (sym none) ∙ e ∙ ap (λ (l : List ℕ). moved ++ l) p.1 ∙ append-nil moved)) w
    by (stops moved rest ao bc w e some) = absurd (not_both is bc p.2)
    by (stopped ac bc k) = absurd (not_both was ac wo)

-- a sector of an image as it is put
pub record_is : (image : List (List ℕ)) (number n : ℕ) (head sector bytes : List ℕ) → n ≡ number → head ≡ number_bytes 8 n → slice_get image number ≡ Some sector → bytes ≡ sector
    → head ++ bytes ≡ record_text (with_content image number)
unfolding record_text
record_is image number n head sector bytes same first at is =
    ap (λ l. l ++ bytes) (first ∙ ap (number_bytes 8) same)
    ∙ ap (λ l. number_bytes 8 number ++ l) (is ∙ sym (get_or_from_slice_get image number sector [] at))

-- all elements
pub puts_each : {A B : Type 0} (f : B → List ℕ) (g : A → B) (xs : List A) (i : ℕ) (a b : StreamValue) → i ≡ length xs → Puts a b (flat_map f (map g (take i xs))) → Puts a b (flat_map f (map g xs))
puts_each f g xs i a b end p = subst (λ l. Puts a b (flat_map f (map g l))) (ap (λ n. take n xs) end ∙ take-length xs) p

-- and what waits is written
pub and_finished : {T E : Type 0} (a b c : StreamValue) (text : List ℕ) (r : Result T E) → Puts a b text → OnOk r (PutsAll b c []) → OnOk r (PutsAll a c text)
and_finished a b c text (Ok done) p q = (puts_and_writes a b c text p q.0, q.1, q.2)
and_finished a b c text (Err fault) p q = tt

pub but_closed : {T E : Type 0} (a b c : StreamValue) (text : List ℕ) (r : Result T E) → Puts a b text → OnErr r (Puts b c [] × (c.closed ≡ true)) → OnErr r (PutsPart a c text)
but_closed a b c text (Ok done) p q = tt
but_closed a b c text (Err fault) p q = record { shown = text; rest = []; whole = append-nil text; puts = puts_and_writes a b c text p q.0; part = inr q.1 }

pub or_part_taken : {T E : Type 0} (before after : Option (List ℕ)) (waiting left : List ℕ) (was is : Bool) (text : List ℕ) (r : Result T E) → was ≡ false → waiting ≡ []
    → OnErr r (PutsPart (stream_of before waiting was) (stream_of after left is) text) → OnErr r (TakesPart before after text)
or_part_taken before after waiting left was is text (Ok done) wo none p = tt
or_part_taken before after waiting left was is text (Err fault) wo none p = part_taken before after waiting left was is text wo none p

pub or_all_taken : {T E : Type 0} (before after : Option (List ℕ)) (waiting left : List ℕ) (was is : Bool) (text : List ℕ) (r : Result T E) → was ≡ false → waiting ≡ []
    → OnOk r (PutsAll (stream_of before waiting was) (stream_of after left is) text) → OnOk r (Appends before after text)
or_all_taken before after waiting left was is text (Ok done) wo none p = all_taken before after waiting left was is text wo none p
or_all_taken before after waiting left was is text (Err fault) wo none p = tt

-- the same of the writer before and after
pub or_part_written : {T E : Type 0} (before after first last : Option (List ℕ)) (waiting left : List ℕ) (was is : Bool) (text : List ℕ) (r : Result T E) → before ≡ first → last ≡ after → was ≡ false → waiting ≡ []
    → OnErr r (PutsPart (stream_of before waiting was) (stream_of after left is) text) → OnErr r (TakesPart first last text)
or_part_written before after first last waiting left was is text r begins ends wo none p =
    subst (λ b. OnErr r (TakesPart b last text)) begins
    (subst (λ a. OnErr r (TakesPart before a text)) (sym ends) (or_part_taken before after waiting left was is text r wo none p))

pub or_all_written : {T E : Type 0} (before after first last : Option (List ℕ)) (waiting left : List ℕ) (was is : Bool) (text : List ℕ) (r : Result T E) → before ≡ first → last ≡ after → was ≡ false → waiting ≡ []
    → OnOk r (PutsAll (stream_of before waiting was) (stream_of after left is) text) → OnOk r (Appends first last text)
or_all_written before after first last waiting left was is text r begins ends wo none p =
    subst (λ b. OnOk r (Appends b last text)) begins
    (subst (λ a. OnOk r (Appends before a text)) (sym ends) (or_all_taken before after waiting left was is text r wo none p))

-- a text after bytes that were put before it
pub headed_all : {T E : Type 0} (a b c : StreamValue) (head text : List ℕ) (r : Result T E) → Puts a b head → OnOk r (PutsAll b c text) → OnOk r (PutsAll a c (head ++ text))
headed_all a b c head text (Ok done) p q = (puts_more a b c head text p q.0, q.1, q.2)
headed_all a b c head text (Err fault) p q = tt

pub headed_part : {T E : Type 0} (a b c : StreamValue) (head text : List ℕ) (r : Result T E) → Puts a b head → OnErr r (PutsPart b c text) → OnErr r (PutsPart a c (head ++ text))
headed_part a b c head text (Ok done) p q = tt
headed_part a b c head text (Err fault) p q = record {
  shown = head ++ q.shown;
  rest = q.rest;
  whole = append_assoc head q.shown q.rest ∙ ap (λ (l : List ℕ). head ++ l) q.whole;
  puts = puts_more a b c head q.shown p q.puts;
  part = q.part;
}
