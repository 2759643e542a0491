-- The first bytes of a raw log have its first fault, and are no more than its entries need.
use Rattle.std.proofs.Common.{ℕ, zero, suc, ◌≡◌, ◌==◌, ◌+◌, ◌*◌, ◌/◌, ◌-◌, ◌<◌, ◌≤◌, ◌⊎◌, ◌||◌, Bool, true, false, nat_le, min, if◌then◌else◌, List, [], ◌∷◌, ◌++◌, length, drop, slice_get, Some, None, refl, sym, subst, ◌∙◌, ap, inl, inr, arith, length-append}
use Rattle.std.proofs.lemmas.Bool.Decides.{nat_tests}
use Rattle.std.proofs.lemmas.Int.{clamps}
use Rattle.std.proofs.lemmas.Bool.{cases_lt}
use Rattle.std.proofs.lemmas.Option.{same_Some}
use Rattle.std.proofs.lemmas.List.{length-take, length-take-le, take-append-drop, take_all}
use Rattle.base.specs.Sizes.{byte_limit, raw_limit}
use Rattle.base.specs.declared.limits.Limits.{Limits}
use Rattle.base.specs.declared.limits.Limits.TheVariants as limits
use Rattle.base.specs.Check.{Check, check, first_failing}
use Rattle.base.specs.Numbers.{number_at}
use Rattle.base.specs.declared.causes.LogCause.{LogCause}
use Rattle.base.specs.declared.causes.LogCause.TheVariants as cause
use Rattle.logfmt.specs.Bounds.{place}
use Rattle.raw_log.specs.Raw.{bytes_in}
use Rattle.raw_log.specs.Faults.{FirstRawFault, in_super, in_entry, EntriesPass, raw_super_checks, raw_entry_checks, raw_entry_fault, size_at, times_at, header, units_before, written_before, data_sectors}
use Rattle.raw_log.proofs.NoFault.{header_place, known_size, told}
use Rattle.input_files.specs.RawLogs.{is_known, entries_of, needed_length, read_raw, RawIsRefusedAlike, NoMoreIsRead, ReadRawIsShort}
use Rattle.input_files.proofs.Kept.{number_kept}

-- the two sizes of sectors
pub known_times : (bytes : List ℕ) → is_known bytes ≡ true
    → ((times_at bytes ≡ 1) × (size_at bytes ≡ 512)) ⊎ ((times_at bytes ≡ 8) × (size_at bytes ≡ 4096))
known_times bytes known =
    let by_size : (b : Bool) → (size_at bytes == 512) ≡ b → (b || (size_at bytes == 4096)) ≡ true
    → ((times_at bytes ≡ 1) × (size_at bytes ≡ 512)) ⊎ ((times_at bytes ≡ 8) × (size_at bytes ≡ 4096)) =
    λ b. elim b as (λ v. (size_at bytes == 512) ≡ v → (v || (size_at bytes == 4096)) ≡ true
    → ((times_at bytes ≡ 1) × (size_at bytes ≡ 512)) ⊎ ((times_at bytes ≡ 8) × (size_at bytes ≡ 4096))) [
      | true ↦ λ e h. let size : size_at bytes ≡ 512 = grind (arith, nat_tests, e) in inl (ap (λ n. n / 512) size, size)
      | false ↦ λ e h. let size : size_at bytes ≡ 4096 = grind (arith, nat_tests, h) in inr (ap (λ n. n / 512) size, size)
    ] in
    by_size (size_at bytes == 512) refl known

-- sectors in bytes
pub sectors_in : (bytes : List ℕ) (n : ℕ) → is_known bytes ≡ true → bytes_in (times_at bytes) n ≡ n * size_at bytes
sectors_in bytes n known = elim (known_times bytes known) [
  | inl small ↦ ap (λ k. bytes_in k n) small.0 ∙ (let e : bytes_in 1 n ≡ n * 512 = omega arith in e) ∙ ap (λ z. n * z) (sym small.1)
  | inr large ↦ ap (λ k. bytes_in k n) large.0 ∙ (let e : bytes_in 8 n ≡ n * 4096 = omega arith in e) ∙ ap (λ z. n * z) (sym large.1)
]

pub sizes : (bytes : List ℕ) → is_known bytes ≡ true → (512 ≤ size_at bytes) × (size_at bytes ≤ 4096)
sizes bytes known = elim (known_times bytes known) [
  | inl small ↦ (omega (arith, small.1), omega (arith, small.1))
  | inr large ↦ (omega (arith, large.1), omega (arith, large.1))
]

-- a later header is no nearer
pub later : (k : ℕ) (bytes : List ℕ) (i d : ℕ) → header k bytes i ≤ header k bytes (i + d)
later k bytes i zero = let e : i + 0 ≡ i = omega arith in rw e (omega arith)
later k bytes i (suc d) =
    let e : i + suc d ≡ suc (i + d) = omega arith in
    let before = later k bytes i d in
    rw e (omega (arith, before))

pub up_to : (k : ℕ) (bytes : List ℕ) (i n : ℕ) → i ≤ n → header k bytes i ≤ header k bytes n
up_to k bytes i n h = let e : i + (n - i) ≡ n = omega (arith, h) in rw (← e) (later k bytes i (n - i))

-- what is needed, where the size of sectors is known
pub needed_known : (limits : Limits) (bytes : List ℕ) → is_known bytes ≡ true → needed_length limits bytes ≡ min (raw_limit limits) (header (times_at bytes) bytes (entries_of bytes))
unfolding needed_length
needed_known limits bytes known = rw known refl

needed_unknown : (limits : Limits) (bytes : List ℕ) → is_known bytes ≡ false → needed_length limits bytes ≡ 512
unfolding needed_length
needed_unknown limits bytes unknown = rw unknown refl

-- some bytes may always be needed
pub raw_limit_most : (limits : Limits) → raw_limit limits ≤ 1073741824
raw_limit_most limits.Usual = omega arith
raw_limit_most limits.Large = omega arith

pub raw_limit_some : (limits : Limits) → 4096 ≤ raw_limit limits
raw_limit_some limits.Usual = omega arith
raw_limit_some limits.Large = omega arith

pub some_needed : (limits : Limits) (bytes : List ℕ) → 512 ≤ needed_length limits bytes
some_needed limits bytes =
    let by_size : (b : Bool) → is_known bytes ≡ b → 512 ≤ needed_length limits bytes =
    λ b. elim b as (λ v. is_known bytes ≡ v → 512 ≤ needed_length limits bytes) [
      | true ↦ λ e.
          let is = needed_known limits bytes e in
          let first : header (times_at bytes) bytes 0 ≡ 1 * size_at bytes = sectors_in bytes 1 e in
          let beyond = up_to (times_at bytes) bytes 0 (entries_of bytes) (omega arith) in
          let size = (sizes bytes e).0 in
          omega (arith, clamps, is, first, beyond, size, raw_limit_some limits)
      | false ↦ λ e. let is = needed_unknown limits bytes e in omega (arith, is)
    ] in
    by_size (is_known bytes) refl

needed_most : (limits : Limits) (bytes : List ℕ) → needed_length limits bytes ≤ raw_limit limits
needed_most limits bytes =
    let by_size : (b : Bool) → is_known bytes ≡ b → needed_length limits bytes ≤ raw_limit limits =
    λ b. elim b as (λ v. is_known bytes ≡ v → needed_length limits bytes ≤ raw_limit limits) [
      | true ↦ λ e. let is = needed_known limits bytes e in omega (arith, clamps, is)
      | false ↦ λ e. let is = needed_unknown limits bytes e in omega (arith, is, raw_limit_some limits)
    ] in
    by_size (is_known bytes) refl

pub read_short : ReadRawIsShort
read_short limits bytes =
    let long : length (read_raw limits bytes) ≡ min (needed_length limits bytes) (length bytes) = length-take (needed_length limits bytes) bytes in
    let most = needed_most limits bytes in
    omega (arith, clamps, long, most)

pub no_more : NoMoreIsRead
no_more k sectors limits bytes es raw can =
    let known : is_known bytes ≡ true = known_size k bytes es raw in
    let times : times_at bytes ≡ k = told k bytes es raw in
    let is = needed_known limits bytes known in
    let count : entries_of bytes ≡ length es = raw.super.entries in
    let same : header (times_at bytes) bytes (entries_of bytes) ≡ header k bytes (length es) = rw (times, count) refl in
    let placed : header k bytes (length es) ≡ bytes_in k (place es (length es)) = header_place k bytes es (length es) raw.stands (omega arith) in
    let long : length (read_raw limits bytes) ≡ min (needed_length limits bytes) (length bytes) = length-take (needed_length limits bytes) bytes in
    omega (arith, clamps, is, same, placed, long)

-- checks of which none fails
each_passes : {C : Type 0} (x : Check C) (rest : List (Check C)) → first_failing (x ∷ rest) ≡ None → (x.passes ≡ true) × (first_failing rest ≡ None)
each_passes x rest h =
    let by_test : (b : Bool) → x.passes ≡ b → (if b then first_failing rest else Some x.cause) ≡ None → (x.passes ≡ true) × (first_failing rest ≡ None) =
    λ b. elim b as (λ v. x.passes ≡ v → (if v then first_failing rest else Some x.cause) ≡ None → (x.passes ≡ true) × (first_failing rest ≡ None)) [
      | true ↦ λ e none. (e, none)
      | false ↦ λ e bad. absurd (let worse : Some x.cause ≡ None = bad in cc)
    ] in
    by_test x.passes refl h

passes : {C : Type 0} (cs : List (Check C)) (i : ℕ) (c : Check C) → first_failing cs ≡ None → slice_get cs i ≡ Some c → c.passes ≡ true
passes [] i c h there = absurd (let bad : None ≡ Some c = there in cc)
passes (x ∷ rest) zero c h there =
    let here : Some x ≡ Some c = there in
    ap (λ y. y.passes) (sym (same_Some x c here)) ∙ (each_passes x rest h).0
passes (x ∷ rest) (suc i) c h there = passes rest i c (each_passes x rest h).1 there

-- of first bytes and what stands after them, the checks of the super block
super_alike : (xs ys : List ℕ) → 512 ≤ length xs → (is_known xs ≡ true → size_at xs ≤ length xs)
    → first_failing (raw_super_checks xs) ≡ first_failing (raw_super_checks (xs ++ ys))
unfolding raw_super_checks
super_alike xs ys long whole =
    let more = length-append xs ys in
    let here : nat_le 512 (length xs) ≡ true = grind (arith, nat_tests, long) in
    let there : nat_le 512 (length (xs ++ ys)) ≡ true = grind (arith, nat_tests, long, more) in
    let by_size : (b : Bool) → is_known xs ≡ b → first_failing (raw_super_checks xs) ≡ first_failing (raw_super_checks (xs ++ ys)) =
    λ b. elim b as (λ v. is_known xs ≡ v → first_failing (raw_super_checks xs) ≡ first_failing (raw_super_checks (xs ++ ys))) [
      | true ↦ λ known.
          let size = whole known in
          let inside : nat_le (size_at xs) (length xs) ≡ true = grind (arith, nat_tests, size) in
          let within : nat_le (size_at xs) (length (xs ++ ys)) ≡ true = grind (arith, nat_tests, size, more) in
          rw (number_kept 8 0 xs ys (omega (arith, long)), number_kept 8 8 xs ys (omega (arith, long)), number_kept 8 16 xs ys (omega (arith, long)), number_kept 4 24 xs ys (omega (arith, long)), here, there, inside, within) refl
      | false ↦ λ unknown.
          rw (number_kept 8 0 xs ys (omega (arith, long)), number_kept 8 8 xs ys (omega (arith, long)), number_kept 8 16 xs ys (omega (arith, long)), number_kept 4 24 xs ys (omega (arith, long)), here, there, unknown) refl
    ] in
    by_size (is_known xs) refl

-- the checks of an entry that ends within the first bytes, or after what may be needed
entry_alike : (k sectors : ℕ) (limits : Limits) (xs ys : List ℕ) (s u w : ℕ) → 1 ≤ k → (s + bytes_in k 1 ≤ raw_limit limits → s + bytes_in k 1 ≤ length xs)
    → (s + bytes_in k 1 ≤ length xs → s + bytes_in k (1 + data_sectors xs s) ≤ raw_limit limits → s + bytes_in k (1 + data_sectors xs s) ≤ length xs)
    → first_failing (raw_entry_checks k xs sectors limits s u w) ≡ first_failing (raw_entry_checks k (xs ++ ys) sectors limits s u w)
unfolding raw_entry_checks
entry_alike k sectors limits xs ys s u w some reaches ends =
    let more = length-append xs ys in
    let by_header : (b : Bool) → nat_le (s + bytes_in k 1) (raw_limit limits) ≡ b → first_failing (raw_entry_checks k xs sectors limits s u w) ≡ first_failing (raw_entry_checks k (xs ++ ys) sectors limits s u w) =
    λ b. elim b as (λ v. nat_le (s + bytes_in k 1) (raw_limit limits) ≡ v → first_failing (raw_entry_checks k xs sectors limits s u w) ≡ first_failing (raw_entry_checks k (xs ++ ys) sectors limits s u w)) [
      | false ↦ λ far. rw far refl
      | true ↦ λ near.
          let within : s + bytes_in k 1 ≤ length xs = reaches (grind (arith, nat_tests, near)) in
          let here : nat_le (s + bytes_in k 1) (length xs) ≡ true = grind (arith, nat_tests, within) in
          let there : nat_le (s + bytes_in k 1) (length (xs ++ ys)) ≡ true = grind (arith, nat_tests, within, more) in
          let sector = number_kept 8 s xs ys (omega (arith, some, within)) in
          let count = number_kept 8 (s + 8) xs ys (omega (arith, some, within)) in
          let word = number_kept 8 (s + 16) xs ys (omega (arith, some, within)) in
          let text = number_kept 8 (s + 24) xs ys (omega (arith, some, within)) in
          let by_end : (b : Bool) → nat_le (s + bytes_in k (1 + data_sectors xs s)) (raw_limit limits) ≡ b → first_failing (raw_entry_checks k xs sectors limits s u w) ≡ first_failing (raw_entry_checks k (xs ++ ys) sectors limits s u w) =
          λ b. elim b as (λ v. nat_le (s + bytes_in k (1 + data_sectors xs s)) (raw_limit limits) ≡ v → first_failing (raw_entry_checks k xs sectors limits s u w) ≡ first_failing (raw_entry_checks k (xs ++ ys) sectors limits s u w)) [
            | false ↦ λ far. rw (sector, count, word, text, near, here, there, far) refl
            | true ↦ λ close.
                let whole : s + bytes_in k (1 + data_sectors xs s) ≤ length xs = ends within (grind (arith, nat_tests, close)) in
                let inside : nat_le (s + bytes_in k (1 + data_sectors xs s)) (length xs) ≡ true = grind (arith, nat_tests, whole) in
                let below : nat_le (s + bytes_in k (1 + data_sectors xs s)) (length (xs ++ ys)) ≡ true = grind (arith, nat_tests, whole, more) in
                rw (sector, count, word, text, near, here, there, close, inside, below) refl
          ] in
          by_end (nat_le (s + bytes_in k (1 + data_sectors xs s)) (raw_limit limits)) refl
    ] in
    by_header (nat_le (s + bytes_in k 1) (raw_limit limits)) refl

-- the headers, as far as the entries pass
header_alike : (k sectors : ℕ) (limits : Limits) (n : ℕ) (xs ys : List ℕ) → 1 ≤ k → ((i : ℕ) → i < n → raw_entry_fault k xs sectors limits i ≡ None)
    → (header k (xs ++ ys) n ≡ header k xs n) × (units_before k (xs ++ ys) n ≡ units_before k xs n) × (written_before k (xs ++ ys) n ≡ written_before k xs n)
unfolding raw_entry_checks
header_alike k sectors limits zero xs ys some pass = (refl, refl, refl)
header_alike k sectors limits (suc n) xs ys some pass =
    let before = header_alike k sectors limits n xs ys some (λ i h. pass i (omega (arith, h))) in
    let s : ℕ = header k xs n in
    let there : nat_le (s + bytes_in k 1) (length xs) ≡ true =
    passes (raw_entry_checks k xs sectors limits s (units_before k xs n) (byte_limit limits - written_before k xs n)) 1 (check cause.CutShort (nat_le (s + bytes_in k 1) (length xs))) (pass n (omega arith)) refl in
    let within : s + bytes_in k 1 ≤ length xs = grind (arith, nat_tests, there) in
    let count = number_kept 8 (s + 8) xs ys (omega (arith, some, within)) in
    let word = number_kept 8 (s + 16) xs ys (omega (arith, some, within)) in
    (rw (before.0, count, word) refl, rw (before.0, before.1, count) refl, rw (before.0, before.2, count, word) refl)

-- first bytes that are as many as are needed
record AreFirst (limits : Limits) (xs ys : List ℕ) : Type 0 where
  pub some : 512 ≤ length xs
  pub known : is_known xs ≡ true → length xs ≡ min (raw_limit limits) (header (times_at xs) (xs ++ ys) (entries_of xs))

fault_alike : (sectors : ℕ) (limits : Limits) (i : ℕ) (xs ys : List ℕ) → AreFirst limits xs ys → is_known xs ≡ true → i < entries_of xs → EntriesPass xs sectors limits i
    → raw_entry_fault (times_at xs) xs sectors limits i ≡ raw_entry_fault (times_at xs) (xs ++ ys) sectors limits i
fault_alike sectors limits i xs ys first known lt pass =
    let k : ℕ = times_at xs in
    let some : 1 ≤ k = elim (known_times xs known) [ inl small ↦ omega (arith, small.0) | inr large ↦ omega (arith, large.0) ] in
    let same = header_alike k sectors limits i xs ys some pass in
    let s : ℕ = header k xs i in
    let long = first.known known in
    let beyond : header k (xs ++ ys) (suc i) ≤ header k (xs ++ ys) (entries_of xs) = up_to k (xs ++ ys) (suc i) (entries_of xs) (omega (arith, lt)) in
    let next : header k (xs ++ ys) (suc i) ≡ s + bytes_in k (1 + data_sectors (xs ++ ys) s) = rw (same.0) refl in
    let reaches : s + bytes_in k 1 ≤ raw_limit limits → s + bytes_in k 1 ≤ length xs = λ h. omega (arith, clamps, h, long, beyond, next) in
    let ends : s + bytes_in k 1 ≤ length xs → s + bytes_in k (1 + data_sectors xs s) ≤ raw_limit limits → s + bytes_in k (1 + data_sectors xs s) ≤ length xs =
    λ within h.
    let count = number_kept 8 (s + 8) xs ys (omega (arith, some, within)) in
    let word = number_kept 8 (s + 16) xs ys (omega (arith, some, within)) in
    let told : data_sectors (xs ++ ys) s ≡ data_sectors xs s = rw (count, word) refl in
    let end : header k (xs ++ ys) (suc i) ≡ s + bytes_in k (1 + data_sectors xs s) = next ∙ ap (λ d. s + bytes_in k (1 + d)) told in
    omega (arith, clamps, h, long, beyond, end) in
    entry_alike k sectors limits xs ys s (units_before k xs i) (byte_limit limits - written_before k xs i) some reaches ends ∙ (rw (same.0, same.1, same.2) refl)

refused_first : (sectors : ℕ) (limits : Limits) (xs ys : List ℕ) (c : LogCause) (at : ℕ) → AreFirst limits xs ys → (is_known xs ≡ true → size_at xs ≤ length xs)
    → FirstRawFault xs sectors limits c at → FirstRawFault (xs ++ ys) sectors limits c at
unfolding raw_super_checks
refused_first sectors limits xs ys _ _ first whole (in_super c h) = in_super c (sym (super_alike xs ys first.some whole) ∙ h)
refused_first sectors limits xs ys _ _ first whole (in_entry c at clean lt pass h) =
    let long = first.some in
    let known : is_known xs ≡ true = passes (raw_super_checks xs) 3 (check cause.SectorSize (is_known xs)) clean refl in
    let times : times_at (xs ++ ys) ≡ times_at xs = ap (λ n. n / 512) (number_kept 4 24 xs ys (omega (arith, long))) in
    let count : entries_of (xs ++ ys) ≡ entries_of xs = number_kept 8 16 xs ys (omega (arith, long)) in
    let alike : (i : ℕ) → i < entries_of xs → EntriesPass xs sectors limits i → raw_entry_fault (times_at (xs ++ ys)) (xs ++ ys) sectors limits i ≡ raw_entry_fault (times_at xs) xs sectors limits i =
    λ i less before. ap (λ k. raw_entry_fault k (xs ++ ys) sectors limits i) times ∙ sym (fault_alike sectors limits i xs ys first known less before) in
    in_entry c at (sym (super_alike xs ys first.some whole) ∙ clean) (omega (arith, lt, count))
    (λ i less. alike i (omega (arith, less, lt)) (λ j below. pass j (omega (arith, below, less))) ∙ pass i less)
    (alike at lt pass ∙ h)

pub refused_alike : RawIsRefusedAlike
refused_alike bytes sectors limits c at fault = elim (cases_lt (needed_length limits bytes) (length bytes)) [
  | inl more ↦
      let xs : List ℕ = read_raw limits bytes in
      let ys : List ℕ = drop (needed_length limits bytes) bytes in
      let all : xs ++ ys ≡ bytes = take-append-drop (needed_length limits bytes) bytes in
      let long : length xs ≡ needed_length limits bytes = length-take-le (needed_length limits bytes) bytes (omega (arith, more)) in
      let some : 512 ≤ length xs = let least = some_needed limits bytes in omega (arith, least, long) in
      let size : size_at bytes ≡ size_at xs = ap (λ zs. number_at 4 24 zs) (sym all) ∙ number_kept 4 24 xs ys (omega (arith, some)) in
      let count : entries_of bytes ≡ entries_of xs = ap (λ zs. number_at 8 16 zs) (sym all) ∙ number_kept 8 16 xs ys (omega (arith, some)) in
      let tells : is_known bytes ≡ is_known xs = ap (λ n. (n == 512) || (n == 4096)) size in
      let first : AreFirst limits xs ys = record {
        some = some;
        known = λ e. long ∙ needed_known limits bytes (tells ∙ e) ∙ ap (λ n. min (raw_limit limits) (header (n / 512) bytes (entries_of bytes))) size
            ∙ ap (λ n. min (raw_limit limits) (header (times_at xs) bytes n)) count ∙ ap (λ zs. min (raw_limit limits) (header (times_at xs) zs (entries_of xs))) (sym all);
      } in
      let whole : is_known xs ≡ true → size_at xs ≤ length xs = λ e.
      let k_known : is_known bytes ≡ true = tells ∙ e in
      let is = needed_known limits bytes k_known in
      let begins : header (times_at bytes) bytes 0 ≡ 1 * size_at bytes = sectors_in bytes 1 k_known in
      let beyond = up_to (times_at bytes) bytes 0 (entries_of bytes) (omega arith) in
      let most = (sizes bytes k_known).1 in
      omega (arith, clamps, long, is, begins, beyond, size, most, raw_limit_some limits) in
      subst (λ zs. FirstRawFault zs sectors limits c at) all (refused_first sectors limits xs ys c at first whole fault)
  | inr less ↦ subst (λ zs. FirstRawFault zs sectors limits c at) (take_all (needed_length limits bytes) bytes (omega (arith, less))) fault
]
