-- What a log with added flushes leaves is left by the log without them.
use Rattle.std.proofs.Common.{ℕ, zero, suc, ◌≡◌, ◌+◌, ◌-◌, ◌<◌, ◌≤◌, ◌==◌, Bool, true, false, not, ◌&&◌, ◌||◌, if◌then◌else◌, List, [], ◌∷◌, ◌++◌, filter, take, drop, slice_get, Option, None, Some, refl, sym, subst, ap, ◌∙◌, arith, inl, inr}
use Rattle.std.specs.List.{list_any}
use Rattle.std.specs.Option.{option_map_or}
use Rattle.std.proofs.lemmas.Bool.Decides.{nat_tests}
use Rattle.std.proofs.lemmas.Option.{same_Some, slice_get_cases, slice_get_past}
use Rattle.logfmt.specs.declared.entry.Entry.{Entry}
use Rattle.logfmt.specs.Flushed.{with_flush, flushed_at, is_place, with_flushes}
use Rattle.logfmt.proofs.Flushed.{length-flushed, entry-flushed, entry-before}
use Rattle.epochs.specs.declared.part.Part.{Part}
use Rattle.epochs.specs.declared.part.By.{By}
use Rattle.epochs.specs.declared.part.By.TheVariants as by
use Rattle.epochs.specs.Parts.{part_size, parts_of_entry, parts_before}
use Rattle.epochs.specs.Units.{of_entries, is_forced, is_flush_between}
use Rattle.epochs.specs.Laws.{IsVolatile}
use Rattle.images.specs.Images.{crash_image}
use Rattle.losses.specs.WindowLaws.{FlushTakesAway, FlushesWriteNothing}
use Rattle.cases.specs.Risk.{is_at_risk, parts_at_risk}
use Rattle.cases.specs.Choices.{Choice, all_fates, departs, departures, image_at}
use Rattle.cases.specs.Laws.{IsAmong}
use Rattle.runs.specs.Flushing.{of_risk, ImagesAreLeft, ChoicesAreLeft, FlushesBringNothing}

own_size : (way : By) (e : Entry) → part_size way (with_flush e) ≡ part_size way e
own_size by.Sector e = refl
own_size by.Write e = refl

-- a part that is volatile with the flushes is so without
was_volatile : (way : By) (es : List Entry) (cut : ℕ) (chosen : ℕ → Bool) (part : Part) → IsVolatile way (flushed_at chosen es) cut part → IsVolatile way es cut part
was_volatile way es cut chosen part is =
    let was = entry-before chosen es part.entry is.entry is.there in
    by_flush (chosen part.entry) was.0 was.1 was.2
  where
    calm : (f : ℕ) (flush : Entry) → part.entry < f → f < cut → slice_get es f ≡ Some flush → flush.flags.flush ≡ false
    calm f flush beyond before there = still (chosen f) (is.flushed f (if chosen f then with_flush flush else flush) beyond before (entry-flushed chosen es f flush there))
      where
        still : (b : Bool) → (if b then with_flush flush else flush).flags.flush ≡ false → flush.flags.flush ≡ false
        still true none = let bad : true ≡ false = none in cc
        still false none = none

    by_flush : (b : Bool) (e : Entry) → slice_get es part.entry ≡ Some e → is.entry ≡ (if b then with_flush e else e) → IsVolatile way es cut part
    by_flush true e there same =
        let inside : part.place + part.count ≤ e.count = subst (λ (x : Entry). part.place + part.count ≤ x.count) same is.inside in
        record {
          entry = e;
          there = there;
          count = subst (λ (x : Entry). part.count ≡ part_size way x) same is.count ∙ own_size way e;
          some = is.some;
          inside = inside;
          sector = subst (λ (x : Entry). part.sector ≡ x.sector + part.place) same is.sector;
          before = is.before;
          forced = subst (λ (x : Entry). x.flags.fua ≡ false) same is.forced;
          flushed = calm;
        }
    by_flush false e there same = record {
      entry = e;
      there = there;
      count = subst (λ (x : Entry). part.count ≡ part_size way x) same is.count;
      some = is.some;
      inside = subst (λ (x : Entry). part.place + part.count ≤ x.count) same is.inside;
      sector = subst (λ (x : Entry). part.sector ≡ x.sector + part.place) same is.sector;
      before = is.before;
      forced = subst (λ (x : Entry). x.flags.fua ≡ false) same is.forced;
      flushed = calm;
    }

there_is_place : (places : List ℕ) (i p : ℕ) → slice_get places i ≡ Some p → is_place places p ≡ true
there_is_place [] i p at = let bad : None ≡ Some p = at in cc
there_is_place (x ∷ places) zero p at =
    let same : x ≡ p = same_Some x p at in
    let here : (x == p) ≡ true = grind (arith, nat_tests, same) in
    ap (λ b. b || is_place places p) here
there_is_place (x ∷ places) (suc i) p at = ap (λ b. (x == p) || b) (there_is_place places i p at) ∙ or_true (x == p)
  where
    or_true : (b : Bool) → (b || true) ≡ true
    or_true true = refl
    or_true false = refl

images_left : FlushTakesAway → FlushesWriteNothing → ImagesAreLeft
images_left away nothing way log cut bound tears ds places is =
    let es = log.entries in
    let same = nothing log places cut ds in
    record {
      choice = record {
        few = is.few;
        volatile = λ i d there. was_volatile way es cut (is_place places) d.part (is.volatile i d there);
        fates = is.fates;
        rising = is.rising;
      };
      device = sym same.0;
      marks = sym same.1;
      none = λ w window i p there holds. (away way es cut bound tears ds w places p window holds (there_is_place places i p there)).0 is;
    }

-- the parts are the same with the flushes
parts_stay : (way : By) (chosen : ℕ → Bool) (es : List Entry) (n k : ℕ) → of_entries (parts_of_entry way) n (take k (flushed_at chosen es)) ≡ of_entries (parts_of_entry way) n (take k es)
parts_stay way chosen es n zero = refl
parts_stay way chosen [] n (suc k) = refl
parts_stay way chosen (e ∷ es) n (suc k) =
    let rest = parts_stay way (λ i. chosen (suc i)) es (suc n) k in
    ap (λ ps. ps ++ of_entries (parts_of_entry way) (suc n) (take k (flushed_at (λ i. chosen (suc i)) es))) (own way (chosen 0))
    ∙ ap (λ ps. parts_of_entry way n e ++ ps) rest
  where
    own : (v : By) (b : Bool) → parts_of_entry v n (if b then with_flush e else e) ≡ parts_of_entry v n e
    own by.Sector true = refl
    own by.Write true = refl
    own by.Sector false = refl
    own by.Write false = refl

forced_stays : (chosen : ℕ → Bool) (es : List Entry) (e : ℕ) → is_forced (flushed_at chosen es) e ≡ is_forced es e
forced_stays chosen es e =
    let test : Option Entry → Bool = λ o. option_map_or (λ (entry : Entry). entry.flags.fua) o false in
    elim (slice_get_cases es e).1 [
      | inl a ↦ ap test (entry-flushed chosen es e a.0 a.2) ∙ own (chosen e) a.0 ∙ sym (ap test a.2)
      | inr past ↦
          let end = past.0 in
          let long = length-flushed chosen es in
          ap test (slice_get_past (flushed_at chosen es) e (omega (arith, end, long))) ∙ sym (ap test (slice_get_past es e end))
    ]
  where
    own : (b : Bool) (x : Entry) → (if b then with_flush x else x).flags.fua ≡ x.flags.fua
    own true x = refl
    own false x = refl

-- where a flush entry stands among some there is one among these with flushes
any_stays : (chosen : ℕ → Bool) (es : List Entry) → list_any (λ (entry : Entry). entry.flags.flush) es ≡ true → list_any (λ (entry : Entry). entry.flags.flush) (flushed_at chosen es) ≡ true
any_stays chosen [] is = is
any_stays chosen (e ∷ es) is = by_head e.flags.flush refl (λ rest. any_stays (λ n. chosen (suc n)) es rest)
  where
    others : List Entry
    others = flushed_at (λ n. chosen (suc n)) es

    flag : (b : Bool) → e.flags.flush ≡ true → (if b then with_flush e else e).flags.flush ≡ true
    flag true own = refl
    flag false own = own

    or_true : (b : Bool) → (b || true) ≡ true
    or_true true = refl
    or_true false = refl

    by_head : (b : Bool) → e.flags.flush ≡ b
        → (list_any (λ (entry : Entry). entry.flags.flush) es ≡ true → list_any (λ (entry : Entry). entry.flags.flush) others ≡ true)
        → ((if chosen 0 then with_flush e else e).flags.flush || list_any (λ (entry : Entry). entry.flags.flush) others) ≡ true
    by_head true own later = ap (λ b. b || list_any (λ (entry : Entry). entry.flags.flush) others) (flag (chosen 0) own)
    by_head false own later =
        let rest : list_any (λ (entry : Entry). entry.flags.flush) es ≡ true = sym (ap (λ b. b || list_any (λ (entry : Entry). entry.flags.flush) es) own) ∙ is in
        ap (λ b. (if chosen 0 then with_flush e else e).flags.flush || b) (later rest) ∙ or_true (if chosen 0 then with_flush e else e).flags.flush

drop_flushed : (n : ℕ) (chosen : ℕ → Bool) (es : List Entry) → (other : ℕ → Bool) × (drop n (flushed_at chosen es) ≡ flushed_at other (drop n es))
drop_flushed zero chosen es = (chosen, refl)
drop_flushed (suc n) chosen [] = (chosen, refl)
drop_flushed (suc n) chosen (e ∷ es) = drop_flushed n (λ i. chosen (suc i)) es

take_flushed : (n : ℕ) (chosen : ℕ → Bool) (es : List Entry) → take n (flushed_at chosen es) ≡ flushed_at chosen (take n es)
take_flushed zero chosen es = refl
take_flushed (suc n) chosen [] = refl
take_flushed (suc n) chosen (e ∷ es) = ap (λ xs. (if chosen 0 then with_flush e else e) ∷ xs) (take_flushed n (λ i. chosen (suc i)) es)

between_stays : (chosen : ℕ → Bool) (es : List Entry) (e k : ℕ) → is_flush_between es e k ≡ true → is_flush_between (flushed_at chosen es) e k ≡ true
between_stays chosen es e k is =
    let rest = drop_flushed (e + 1) chosen es in
    ap (λ xs. list_any (λ (entry : Entry). entry.flags.flush) (take (k - (e + 1)) xs)) rest.1
    ∙ ap (list_any (λ (entry : Entry). entry.flags.flush)) (take_flushed (k - (e + 1)) rest.0 (drop (e + 1) es))
    ∙ any_stays rest.0 (take (k - (e + 1)) (drop (e + 1) es)) is

-- what is at risk with the flushes is so without
risk_was : (chosen : ℕ → Bool) (es : List Entry) (k e : ℕ) → is_at_risk (flushed_at chosen es) k e ≡ true → is_at_risk es k e ≡ true
risk_was chosen es k e is = by_flush (is_flush_between es e k) refl
  where
    fes : List Entry
    fes = flushed_at chosen es

    both : (a b : Bool) → (a && b) ≡ true → (a ≡ true) × (b ≡ true)
    both true b h = (refl, h)
    both false b h = let bad : false ≡ true = h in cc

    own : ((not (is_forced fes e) || (e + 1 == k)) ≡ true) × (not (is_flush_between fes e k) ≡ true)
    own = both (not (is_forced fes e) || (e + 1 == k)) (not (is_flush_between fes e k)) is

    free : (not (is_forced es e) || (e + 1 == k)) ≡ true
    free = sym (ap (λ b. not b || (e + 1 == k)) (forced_stays chosen es e)) ∙ own.0

    by_flush : (b : Bool) → is_flush_between es e k ≡ b → is_at_risk es k e ≡ true
    by_flush true there = let bad : false ≡ true = sym (ap not (between_stays chosen es e k there)) ∙ own.1 in cc
    by_flush false none = ap (λ b. (not (is_forced es e) || (e + 1 == k)) && not b) none ∙ ap (λ b. b && true) free

-- what some parts lose is what more parts lose by a choice that has all others whole
narrowed : (choice : Choice) (few more : Part → Bool) (ps : List Part) → ((p : Part) → few p ≡ true → more p ≡ true)
    → departures choice (filter few ps) ≡ departures (λ p. if few p then choice p else None) (filter more ps)
narrowed choice few more [] within = refl
narrowed choice few more (p ∷ ps) within = by_tests (few p) (more p) refl refl (narrowed choice few more ps within)
  where
    left : Choice
    left q = if few q then choice q else None

    by_tests : (a b : Bool) → few p ≡ a → more p ≡ b → departures choice (filter few ps) ≡ departures left (filter more ps)
        → departures choice (if a then p ∷ filter few ps else filter few ps) ≡ departures left (if b then p ∷ filter more ps else filter more ps)
    by_tests true true here there rest =
        ap (λ ds. departs p (choice p) ++ ds) rest ∙ ap (λ b. departs p (if b then choice p else None) ++ departures left (filter more ps)) (sym here)
    by_tests true false here none rest = let bad : true ≡ false = sym (within p here) ∙ none in cc
    by_tests false true here there rest = rest ∙ ap (λ b. departs p (if b then choice p else None) ++ departures left (filter more ps)) (sym here)
    by_tests false false here none rest = rest

choices_left : FlushesWriteNothing → ChoicesAreLeft
unfolding parts_at_risk
choices_left nothing log way tears cut choice places possible = (λ p. whole_or (is_at_risk fes cut p.entry) p, sym (device ∙ ap (crash_image log cut) same))
  where
    es : List Entry
    es = log.entries

    fes : List Entry
    fes = flushed_at (is_place places) es

    few : Part → Bool
    few p = is_at_risk fes cut p.entry

    whole_among : (t : Bool) → IsAmong (all_fates t) None
    whole_among true = inl refl
    whole_among false = inl refl

    whole_or : (b : Bool) (p : Part) → IsAmong (all_fates tears) (if b then choice p else None)
    whole_or true p = possible p
    whole_or false p = whole_among tears

    device : image_at (with_flushes places log) way cut choice ≡ crash_image log cut (departures choice (parts_at_risk way fes cut))
    device = (nothing log places cut (departures choice (parts_at_risk way fes cut))).0

    same : departures choice (parts_at_risk way fes cut) ≡ departures (of_risk fes cut choice) (parts_at_risk way es cut)
    same =
        ap (λ ps. departures choice (filter few ps)) (parts_stay way (is_place places) es 0 cut)
        ∙ narrowed choice few (λ p. is_at_risk es cut p.entry) (parts_before way es cut) (λ p is. risk_was (is_place places) es cut p.entry is)

pub flushes_bring_nothing : FlushTakesAway → FlushesWriteNothing → FlushesBringNothing
flushes_bring_nothing away nothing = record { images = images_left away nothing; choices = choices_left nothing }
