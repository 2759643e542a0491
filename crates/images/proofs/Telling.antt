-- What a key tells: its changed sectors and the base give back the image.
use Rattle.std.proofs.Common.{ℕ, zero, suc, ◌≡◌, ◌+◌, ◌<◌, ◌≤◌, nat_eq, nat_lt, ◌==◌, Bool, true, false, not, cond, if◌then◌else◌, List, [], ◌∷◌, length, map, filter, Some, None, refl, sym, ◌∙◌, ap, inl, inr, arith}
use Rattle.std.specs.List.{range_with_len}
use Rattle.std.specs.Cmp.Lexicographic.{pointwise, same_text}
use Rattle.std.proofs.lemmas.Bool.{cases_lt, eq-eqb, ne_eqb}
use Rattle.std.proofs.lemmas.List.{same_lists, get_or_default}
use Rattle.std.proofs.lemmas.Option.{same_Some}
use Rattle.logfmt.specs.Bounds.{LogValue}
use Rattle.epochs.specs.Units.{epoch_at, marks_at}
use Rattle.helpers.specs.declared.device.Context.{Context}
use Rattle.images.specs.Views.{ViewValue, sectors_of, context_at}
use Rattle.images.specs.Whole.{length_view}
use Rattle.images.specs.Keys.{ChangedValue, KeyValue, base_of, content_at, differs, with_content, changed_below, changed_sectors, most_changed, identity_of, key_of, with_program}
use Rattle.images.specs.Laws.{KeysTell}
use Rattle.images.proofs.Bases.{one_base}

-- the content of sector n in a list of sectors, or another where the list hasn't that sector
abbrev content_in : List ChangedValue → ℕ → List ℕ → List ℕ
content_in [] n other = other
content_in (sector ∷ rest) n other = if sector.number == n then sector.content else content_in rest n other

-- among m sectors from a on those that differ
abbrev differing : List (List ℕ) → List (List ℕ) → ℕ → ℕ → List ℕ
differing base image a m = filter (differs base image) (range_with_len a m)

-- a sector before the first isn't listed
beyond : (image : List (List ℕ)) (a n : ℕ) (ns : List ℕ) (other : List ℕ) (b : Bool) → n < a → content_in (map (with_content image) ns) n other ≡ other
    → content_in (map (with_content image) (cond b (a ∷ ns) ns)) n other ≡ other
beyond image a n ns other false lt rest = rest
beyond image a n ns other true lt rest =
    ap (λ t. if t then content_at image a else content_in (map (with_content image) ns) n other) (ne_eqb a n (λ e. absurd (omega (arith, lt, e)))) ∙ rest

absent : (base image : List (List ℕ)) (a m n : ℕ) (other : List ℕ) → n < a → content_in (map (with_content image) (differing base image a m)) n other ≡ other
absent base image a zero n other lt = refl
absent base image a (suc m) n other lt =
    beyond image a n (differing base image (a + 1) m) other (differs base image a) lt (absent base image (a + 1) m n other (omega (arith, lt)))

-- a sector that doesn't differ
untold : (b : Bool) → false ≡ not b → true ≡ b
untold true h = refl
untold false h = sym h

unchanged : (base image : List (List ℕ)) (n : ℕ) → false ≡ differs base image n → content_at base n ≡ content_at image n
unfolding differs
unchanged base image n same =
    same_text (content_at base n) (content_at image n) (untold (pointwise nat_eq (content_at base n) (content_at image n)) same)

-- a sector is listed, or is that of the base
first_or_rest : (base image : List (List ℕ)) (a n : ℕ) (ns : List ℕ) (b : Bool) → b ≡ differs base image a → a ≤ n
    → (a < n → content_in (map (with_content image) ns) n (content_at base n) ≡ content_at image n)
    → (a ≡ n → content_in (map (with_content image) ns) n (content_at base n) ≡ content_at base n)
    → content_in (map (with_content image) (cond b (a ∷ ns) ns)) n (content_at base n) ≡ content_at image n
first_or_rest base image a n ns false flag le more none = elim (cases_lt a n) [
  | inl lt ↦ more lt
  | inr past ↦
      let here : a ≡ n = omega (arith, le, past) in
      none here ∙ unchanged base image n (flag ∙ ap (differs base image) here)
]
first_or_rest base image a n ns true flag le more none = elim (cases_lt a n) [
  | inl lt ↦
      ap (λ t. if t then content_at image a else content_in (map (with_content image) ns) n (content_at base n)) (ne_eqb a n (λ e. absurd (omega (arith, lt, e)))) ∙ more lt
  | inr past ↦
      let here : a ≡ n = omega (arith, le, past) in
      ap (λ t. if t then content_at image a else content_in (map (with_content image) ns) n (content_at base n)) (eq-eqb a n here) ∙ ap (content_at image) here
]

restored_from : (base image : List (List ℕ)) (a m n : ℕ) → a ≤ n → n < a + m
    → content_in (map (with_content image) (differing base image a m)) n (content_at base n) ≡ content_at image n
restored_from base image a zero n le lt = absurd (omega (arith, le, lt))
restored_from base image a (suc m) n le lt =
    first_or_rest base image a n (differing base image (a + 1) m) (differs base image a) refl le
    (λ further. restored_from base image (a + 1) m n (omega (arith, further)) (omega (arith, lt)))
    (λ here. absent base image (a + 1) m n (content_at base n) (omega (arith, here)))

restored : (base image : List (List ℕ)) (n : ℕ) → n < length image → content_in (changed_sectors base image) n (content_at base n) ≡ content_at image n
unfolding changed_below
restored base image n lt = restored_from base image 0 (length image) n (omega arith) (omega (arith, lt))

-- images of one size are the same where their changed sectors are
images_told : (base one other : List (List ℕ)) → length one ≡ length other → changed_sectors base one ≡ changed_sectors base other → one ≡ other
images_told base one other long same = same_lists one other long (λ n d lt.
    let within : n < length other = omega (arith, long, lt) in
    get_or_default one n d [] lt
    ∙ sym (restored base one n lt)
    ∙ ap (λ sectors. content_in sectors n (content_at base n)) same
    ∙ restored base other n within
    ∙ get_or_default other n [] d within)

-- a key is what its view has
key_is : (view : ViewValue) (program : ℕ) (key : KeyValue) (b : Bool) → (if b then None else Some (identity_of view program)) ≡ Some key
    → identity_of view program ≡ key
key_is view program key true h = absurd (let bad : None ≡ Some key = h in cc)
key_is view program key false h = same_Some (identity_of view program) key h

key_of_view : (view : ViewValue) (program : ℕ) (key : KeyValue) → key_of view program ≡ Some key → identity_of view program ≡ key
unfolding key_of
key_of_view view program key h = key_is view program key (nat_lt most_changed (length (changed_sectors (base_of view.log view.cut) (sectors_of view)))) h

one_base_of : (a b : ViewValue) → a.log ≡ b.log → epoch_at a.log.entries a.cut ≡ epoch_at b.log.entries b.cut → base_of a.log a.cut ≡ base_of b.log b.cut
one_base_of a b same epoch =
    ap (λ (log : LogValue). base_of log a.cut) same
    ∙ one_base b.log a.cut b.cut (ap (λ (log : LogValue). epoch_at log.entries a.cut) (sym same) ∙ epoch)

tells : (a b : ViewValue) (p q : ℕ) → a.log ≡ b.log → identity_of a p ≡ identity_of b q
    → (p ≡ q) × (context_at a.log a.cut ≡ context_at b.log b.cut) × (sectors_of a ≡ sectors_of b)
tells a b p q same is =
    let epoch : epoch_at a.log.entries a.cut ≡ epoch_at b.log.entries b.cut = ap (λ (key : KeyValue). key.epoch) is in
    let marks : marks_at a.log.entries a.cut ≡ marks_at b.log.entries b.cut = ap (λ (key : KeyValue). key.marks) is in
    let size : a.log.sectors ≡ b.log.sectors = ap (λ (log : LogValue). log.sectors) same in
    let listed : changed_sectors (base_of a.log a.cut) (sectors_of a) ≡ changed_sectors (base_of b.log b.cut) (sectors_of b) = ap (λ (key : KeyValue). key.changed) is in
    let base = one_base_of a b same epoch in (
      ap (λ (key : KeyValue). key.program) is,
      λ i. record { sectors = size i; epoch = epoch i; marks = marks i },
      images_told (base_of b.log b.cut) (sectors_of a) (sectors_of b) (length_view a ∙ size ∙ sym (length_view b))
          (ap (λ durable. changed_sectors durable (sectors_of a)) (sym base) ∙ listed),
    )

told_by : (a b : ViewValue) (p q : ℕ) → a.log ≡ b.log → p ≡ q → context_at a.log a.cut ≡ context_at b.log b.cut → sectors_of a ≡ sectors_of b
    → identity_of a p ≡ identity_of b q
told_by a b p q same program context image =
    let epoch : epoch_at a.log.entries a.cut ≡ epoch_at b.log.entries b.cut = ap (λ (c : Context). c.epoch) context in
    let marks : marks_at a.log.entries a.cut ≡ marks_at b.log.entries b.cut = ap (λ (c : Context). c.marks) context in
    let listed : changed_sectors (base_of a.log a.cut) (sectors_of a) ≡ changed_sectors (base_of b.log b.cut) (sectors_of b) =
    ap (λ durable. changed_sectors durable (sectors_of a)) (one_base_of a b same epoch) ∙ ap (changed_sectors (base_of b.log b.cut)) image in
    λ i. record { program = program i; epoch = epoch i; marks = marks i; changed = listed i }

pub keys_tell : KeysTell
keys_tell a b p q key other same one two =
    let first = key_of_view a p key one in
    let second = key_of_view b q other two in (
      λ is. tells a b p q same (first ∙ is ∙ sym second),
      λ all. sym first ∙ told_by a b p q same all.0 all.1 all.2 ∙ second,
    )

-- the key of the same image and of another program
other_by : (view : ViewValue) (p q : ℕ) (key : KeyValue) (b : Bool) → (if b then None else Some (identity_of view p)) ≡ Some key
    → (if b then None else Some (identity_of view q)) ≡ Some (with_program key q)
other_by view p q key true h = absurd (let bad : None ≡ Some key = h in cc)
other_by view p q key false h = ap (λ (k : KeyValue). Some (with_program k q)) (same_Some (identity_of view p) key h)

pub other_program : (view : ViewValue) (p q : ℕ) (key : KeyValue) → key_of view p ≡ Some key → key_of view q ≡ Some (with_program key q)
unfolding key_of
other_program view p q key h = other_by view p q key (nat_lt most_changed (length (changed_sectors (base_of view.log view.cut) (sectors_of view)))) h

-- an image without a key has none for any program
none_by : (view : ViewValue) (p q : ℕ) (b : Bool) → (if b then None else Some (identity_of view p)) ≡ None → None ≡ (if b then None else Some (identity_of view q))
none_by view p q true h = refl
none_by view p q false h = absurd (let bad : Some (identity_of view p) ≡ None = h in cc)

pub no_program : (view : ViewValue) (p q : ℕ) → key_of view p ≡ None → None ≡ key_of view q
unfolding key_of
no_program view p q h = none_by view p q (nat_lt most_changed (length (changed_sectors (base_of view.log view.cut) (sectors_of view)))) h
