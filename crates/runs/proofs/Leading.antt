-- What is told of the rounds of a cure, round after round.
use Rattle.std.proofs.Common.{ℕ, ◌≡◌, ◌≢◌, ◌==◌, ◌+◌, ◌<◌, ◌≤◌, Bool, true, false, not, if◌then◌else◌, List, [], ◌∷◌, ◌++◌, length, filter, Option, append_assoc, refl, sym, ◌∙◌, ap, subst, arith}
use Rattle.std.specs.List.{flat_map}
use Rattle.std.proofs.lemmas.Bool.Decides.{eqb_tells}
use Rattle.logfmt.specs.declared.entry.Entry.{Entry}
use Rattle.logfmt.specs.Bounds.{LogValue, IsLog}
use Rattle.logfmt.specs.Flushed.{with_flushes}
use Rattle.checker.specs.Checker.{CheckerValue}
use Rattle.losses.specs.declared.flushes.window.Window.{Window}
use Rattle.losses.specs.declared.flushes.counted.MissingFlush.{MissingFlush}
use Rattle.losses.specs.Counted.{AreMissing}
use Rattle.losses.specs.declared.cure.failure.Failure.{Failure}
use Rattle.losses.specs.FailureWindows.{windows_in, places_in, calm_entries}
use Rattle.losses.specs.CureText.{flush_line, refused_line, rounds_text}
use Rattle.request.specs.declared.any_losses.AnyLosses.{AnyLosses}
use Rattle.request.specs.declared.settings.Settings.{Settings}
use Rattle.runs.specs.Cured.{IsPast, IsRound, Ends, with_totals, with_refusal, TellsRounds}
use Rattle.runs.specs.Trials.{HasFound, LeadsOn, TellsOn}

-- before the first round
pub leads_first : (o : Option AnyLosses) (s : Settings) (checkers : List CheckerValue) (value : LogValue) (old : List ℕ) → LeadsOn o s checkers value old 1 value old
leads_first o s checkers value old = record { leads = λ rest tells. (rest, refl, tells) }

-- the flushes that are missing for a run make a round
round_of : (o : Option AnyLosses) (s : Settings) (checkers : List CheckerValue) (value : LogValue) (fs : List Failure) (last : List ℕ) (ms : List MissingFlush)
    → HasFound o s checkers value fs last → windows_in fs ≢ [] → AreMissing (windows_in fs) ms → IsRound o s checkers value ms
round_of o s checkers value fs last ms found some missing =
    record { failures = fs; begin = found.0; last = last; finds = found.1.finds; some = some; missing = missing }

-- one round more
pub leads_more : (o : Option AnyLosses) (s : Settings) (checkers : List CheckerValue) (first : LogValue) (old now new : List ℕ) (number : ℕ) (value : LogValue) (ms : List MissingFlush)
    → LeadsOn o s checkers first old number value now → IsRound o s checkers value ms → new ≡ now ++ flat_map (flush_line number) ms
    → LeadsOn o s checkers first old (number + 1) (with_flushes (places_in ms) value) new
leads_more o s checkers first old now new number value ms lead round told =
    record {
      leads = λ rest tells.
          let whole : TellsRounds o s checkers value number (flat_map (flush_line number) ms ++ rest) = record {
            rounds = ms ∷ tells.rounds;
            are = (round, tells.are);
            end = tells.end;
            ends = tells.ends;
            told = ap (λ (bs : List ℕ). flat_map (flush_line number) ms ++ bs) tells.told
                ∙ sym (append_assoc (flat_map (flush_line number) ms) (rounds_text (number + 1) tells.rounds) tells.end);
          } in
          let on = lead.leads (flat_map (flush_line number) ms ++ rest) whole in
          (on.0, ap (λ (bs : List ℕ). bs ++ rest) told ∙ append_assoc now (flat_map (flush_line number) ms) rest ∙ on.1, on.2);
    }

-- the last run
pub tells_end : (o : Option AnyLosses) (s : Settings) (checkers : List CheckerValue) (first : LogValue) (old now new end : List ℕ) (number : ℕ) (value : LogValue)
    → LeadsOn o s checkers first old number value now → Ends o s checkers value end → new ≡ now ++ end → TellsOn o s checkers first old new
tells_end o s checkers first old now new end number value lead ends told =
    let on = lead.leads end (record { rounds = []; are = tt; end = end; ends = ends; told = refl }) in
    record { text = on.0; appended = told ∙ on.1; tells = on.2 }

-- that many entries at most are no flush entries
few_calm : (es : List Entry) → calm_entries es ≤ length es
few_calm [] = omega arith
few_calm (e ∷ es) = by_test e.flags.flush (few_calm es)
  where
    by_test : (b : Bool) → calm_entries es ≤ length es
        → length (if not b then e ∷ filter (λ (x : Entry). not x.flags.flush) es else filter (λ (x : Entry). not x.flags.flush) es) ≤ length (e ∷ es)
    by_test true h = omega (arith, h)
    by_test false h = omega (arith, h)

pub calm_of_log : (value : LogValue) → IsLog value → calm_entries value.entries ≤ 65536
calm_of_log value is =
    let few = few_calm value.entries in
    let count = is.count in
    omega (arith, few, count)

-- where a cure stands before a round: the log at hand, what its run found, and what is told so far
pub record Trying (o : Option AnyLosses) (s : Settings) (checkers : List CheckerValue) (first : LogValue) (old : List ℕ) (number : ℕ) (value : LogValue) (fs : List Failure) (last : List ℕ)
    (ws : List Window) (now : List ℕ) : Type 0 where
  pub device : value.sectors ≡ s.sectors
  pub found : HasFound o s checkers value fs last
  pub windows : ws ≡ windows_in fs
  pub leads : LeadsOn o s checkers first old number value now
  pub few : number + calm_entries value.entries ≤ 65537

pub trying_first : (o : Option AnyLosses) (s : Settings) (checkers : List CheckerValue) (value : LogValue) (old : List ℕ) (fs : List Failure) (last : List ℕ) (ws : List Window)
    → IsLog value → value.sectors ≡ s.sectors → HasFound o s checkers value fs last → ws ≡ windows_in fs → Trying o s checkers value old 1 value fs last ws old
trying_first o s checkers value old fs last ws is device found windows =
    let calm = calm_of_log value is in
    record { device = device; found = found; windows = windows; leads = leads_first o s checkers value old; few = omega (arith, calm) }

-- the run of the log with the flushes that were missing
pub trying_more : (o : Option AnyLosses) (s : Settings) (checkers : List CheckerValue) (first : LogValue) (old now new : List ℕ) (number : ℕ) (value next : LogValue) (fs gs : List Failure)
    (last final : List ℕ) (ws vs asked : List Window) (flushes : List MissingFlush)
    → Trying o s checkers first old number value fs last ws now → asked ≢ [] → asked ≡ ws → AreMissing asked flushes → next ≡ with_flushes (places_in flushes) value
    → calm_entries next.entries < calm_entries value.entries → new ≡ now ++ flat_map (flush_line number) flushes → HasFound o s checkers next gs final → vs ≡ windows_in gs
    → Trying o s checkers first old (number + 1) next gs final vs new
trying_more o s checkers first old now new number value next fs gs last final ws vs asked flushes trying some same missing added fewer told found windows =
    let few = trying.few in
    let round : IsRound o s checkers value flushes =
    round_of o s checkers value fs last flushes trying.found (λ none. some (same ∙ trying.windows ∙ none)) (subst (λ (xs : List Window). AreMissing xs flushes) (same ∙ trying.windows) missing) in
    record {
      device = ap (λ (v : LogValue). v.sectors) added ∙ trying.device;
      found = found;
      windows = windows;
      leads = subst (λ (v : LogValue). LeadsOn o s checkers first old (number + 1) v new) (sym added) (leads_more o s checkers first old now new number value flushes trying.leads round told);
      few = omega (arith, few, fewer);
    }

-- the run of the log with them has too many images or cases
pub trying_past : (o : Option AnyLosses) (s : Settings) (checkers : List CheckerValue) (first : LogValue) (old now mid new : List ℕ) (number : ℕ) (value next : LogValue) (fs : List Failure)
    (last : List ℕ) (ws asked : List Window) (flushes : List MissingFlush) (cut : ℕ)
    → Trying o s checkers first old number value fs last ws now → asked ≢ [] → asked ≡ ws → AreMissing asked flushes → next ≡ with_flushes (places_in flushes) value
    → mid ≡ now ++ flat_map (flush_line number) flushes → IsPast o s checkers next cut → new ≡ mid ++ refused_line cut → TellsOn o s checkers first old new
trying_past o s checkers first old now mid new number value next fs last ws asked flushes cut trying some same missing added told past ends =
    let round : IsRound o s checkers value flushes =
    round_of o s checkers value fs last flushes trying.found (λ none. some (same ∙ trying.windows ∙ none)) (subst (λ (xs : List Window). AreMissing xs flushes) (same ∙ trying.windows) missing) in
    tells_end o s checkers first old mid new (refused_line cut) (number + 1) next
    (subst (λ (v : LogValue). LeadsOn o s checkers first old (number + 1) v mid) (sym added) (leads_more o s checkers first old now mid number value flushes trying.leads round told))
    (with_refusal cut past) ends

-- no failure has a window
pub trying_end : (o : Option AnyLosses) (s : Settings) (checkers : List CheckerValue) (first : LogValue) (old now new : List ℕ) (number : ℕ) (value : LogValue) (fs : List Failure) (last : List ℕ)
    (ws : List Window) → Trying o s checkers first old number value fs last ws now → ws ≡ [] → new ≡ now ++ last → TellsOn o s checkers first old new
trying_end o s checkers first old now new number value fs last ws trying none told =
    tells_end o s checkers first old now new last number value trying.leads (with_totals fs trying.found.0 last trying.found.1.finds (sym trying.windows ∙ none)) told

-- a list that is empty, by its length
pub none_left : {A : Type 0} (xs : List A) (n : ℕ) (empty : Bool) → empty ≡ (n == 0) → empty ≡ true → n ≡ length xs → xs ≡ []
none_left [] n empty told test long = refl
none_left (x ∷ xs) n empty told test long =
    let zero : (n == 0) ≡ true = sym told ∙ test in
    let e : n ≡ 0 = grind (arith, eqb_tells, zero) in
    absurd (omega (arith, e, long))
