-- What a search of a cut came to.
use Rattle.std.proofs.Common.{ℕ, ◌≡◌, ◌+◌, ◌<◌, ◌≤◌, ◌==◌, Bool, true, false, not, List, [], ◌∷◌, ◌++◌, length, map, count_by, slice_get, Option, None, Some, ◌-◌, refl, sym, subst, ◌∙◌, ap, arith, inl, inr}
use Rattle.std.specs.List.{All}
use Rattle.std.specs.Global.{Vec}
use Rattle.std.proofs.lemmas.Bool.{false≢true}
use Rattle.std.proofs.lemmas.List.{append-nil, length-map, length-append}
use Rattle.std.proofs.lemmas.List.Sums.{sum_by_push}
use Rattle.std.proofs.lemmas.Option.{same_Some}
use Rattle.base.proofs.Lists.{slice_get_of_push}
use Rattle.logfmt.specs.Bounds.{LogValue}
use Rattle.epochs.specs.declared.part.By.{By}
use Rattle.cases.specs.Cases.{Case, whole_case}
use Rattle.cases.specs.Trees.{Program, Subject}
use Rattle.cases.specs.AtCut.{CutValue, parts_of, case_of}
use Rattle.cases.specs.Search.{Asked, subject_of, SearchValue, pending, Ran, LeadTo, are_there, LeafValue, leaf_case, EndsSo, is_torn_beyond, plus}
use Rattle.losses.specs.declared.found.Losses.{Losses}
use Rattle.losses.specs.FoundCases.{most_cases}
use Rattle.case_runs.specs.Leaves.{failing_from}
use Rattle.case_runs.specs.declared.found.SearchFault.{SearchFault}
use Rattle.case_runs.specs.declared.found.SearchFault.TheVariants as fault
use Rattle.known.specs.declared.found.Stops.{Stops}
use Rattle.known.specs.declared.found.KnownAt.{KnownAt}
use Rattle.known.specs.Records.{RecordsValue}
use Rattle.known.specs.Leaves.{told_of, open_of, has_stopped, failing_value, open_sets, sets_of_leaf}
use Rattle.known.specs.Found.{subject_at, Reached, IsKnownAt, cases_at, cases_in, AreFirstKnown, AreKnown, IsPast, AreTooMany, StopsAt, StopsIn, CameRight, WentOn}
use Rattle.known.proofs.Meeting.{told_and_open}

-- a search of a cut that began with all choices, and where it went
pub record CameTo (asked : Losses) (at : CutValue) (records : RecordsValue) (stops : Stops) (program : Program) (old new : SearchValue) (leaves : List LeafValue) (most : ℕ) : Type 0 where
  pub program_is : program ≡ (subject_at asked at records).program
  pub asked_is : old.asked ≡ record { at = at; torn = asked.torn; lost = asked.lost }
  pub tears_is : old.tears ≡ asked.tears
  pub whole : pending old ≡ whole_case asked.tears ∷ []
  pub none : (old.torn_beyond ≡ 0) × (old.lost_beyond ≡ 0)
  pub went : WentOn program stops old new leaves most

-- what it reached, with how many cases it left out
pub record ReachedSo (asked : Losses) (at : CutValue) (records : RecordsValue) (stops : Stops) (leaves : List LeafValue) (new : SearchValue) : Type 0 where
  pub left : List Case
  pub reached : Reached asked at records stops leaves left (pending new)
  pub torn : new.torn_beyond ≡ plus 0 (count_by (is_torn_beyond (subject_at asked at records)) left)
  pub lost : new.lost_beyond ≡ plus 0 (count_by (λ c. not (is_torn_beyond (subject_at asked at records) c)) left)

pub reached_so : (asked : Losses) (at : CutValue) (records : RecordsValue) (stops : Stops) (program : Program) (old new : SearchValue) (leaves : List LeafValue) (most : ℕ)
    → CameTo asked at records stops program old new leaves most → ReachedSo asked at records stops leaves new
reached_so asked at records stops program old new leaves most so =
    let q : Asked = record { at = at; torn = asked.torn; lost = asked.lost } in
    let s = subject_at asked at records in
    let F = leaf_case asked.tears at in
    let went : WentOn s.program stops old new leaves most = subst (λ (p : Program). WentOn p stops old new leaves most) so.program_is so.went in
    let own : Ran s old new [] leaves = subst (λ (a : Asked). Ran (subject_of a s.program) old new [] leaves) so.asked_is went.ran in
    let same : leaf_case old.tears old.asked.at ≡ F = λ i. leaf_case (so.tears_is i) (so.asked_is i).at in
    let led : LeadTo s (pending new) (pending old) (map (leaf_case old.tears old.asked.at) own.told ++ []) (own.left ++ []) = own.leads (pending new) [] [] are_there in
    record {
      left = own.left;
      reached = record {
        leads =
            subst (λ (ls : List LeafValue). LeadTo s (pending new) (whole_case asked.tears ∷ []) (map F ls) own.left) (sym own.added)
            (subst (λ (cs : List Case). LeadTo s (pending new) (whole_case asked.tears ∷ []) cs own.left)
            (append-nil (map (leaf_case old.tears old.asked.at) own.told) ∙ ap (λ (f : LeafValue → Case). map f own.told) same)
            (subst (λ (cs : List Case). LeadTo s (pending new) cs (map (leaf_case old.tears old.asked.at) own.told ++ []) own.left) so.whole
            (subst (λ (cs : List Case). LeadTo s (pending new) (pending old) (map (leaf_case old.tears old.asked.at) own.told ++ []) cs) (append-nil own.left) led)));
        endings =
            subst (λ (ls : List LeafValue). All (EndsSo s asked.tears at) ls) (sym own.added)
            (subst (λ (P : LeafValue → Type 0). All P own.told) (λ i. EndsSo s (so.tears_is i) (so.asked_is i).at) own.endings);
        on = went.on;
      };
      torn = own.torn ∙ ap (λ n. plus n (count_by (is_torn_beyond s) own.left)) so.none.0;
      lost = own.lost ∙ ap (λ n. plus n (count_by (λ c. not (is_torn_beyond s c)) own.left)) so.none.1;
    }

-- what was found of it
pub record FoundSo (at : CutValue) (new : SearchValue) (leaves : List LeafValue) (found : KnownAt) : Type 0 where
  pub cut : found.cut ≡ at.cut
  pub told : found.told ≡ length (told_of leaves)
  pub failing : map failing_value found.failing.items ≡ failing_from 0 (told_of leaves)
  pub are_open : map open_sets found.open_cases.items ≡ map sets_of_leaf (open_of leaves)
  pub torn : found.torn_beyond ≡ new.torn_beyond
  pub lost : found.lost_beyond ≡ new.lost_beyond
  pub stopped : found.stopped ≡ not (length (pending new) == 0)

-- the same where it was to stop
came_so : (asked : Losses) (at : CutValue) (records : RecordsValue) (stops : Stops) (program : Program) (old new : SearchValue) (leaves : List LeafValue) (most : ℕ)
    → CameTo asked at records stops program old new leaves most → length leaves < most → has_stopped stops leaves ≡ true
    → CameRight (subject_at asked at records) (leaf_case asked.tears at) (whole_case asked.tears ∷ []) 0 0 new leaves
came_so asked at records stops program old new leaves most so less stop =
    let q : Asked = record { at = at; torn = asked.torn; lost = asked.lost } in
    let s = subject_at asked at records in
    let went : WentOn s.program stops old new leaves most = subst (λ (p : Program). WentOn p stops old new leaves most) so.program_is so.went in
    let F : LeafValue → Case = leaf_case old.tears old.asked.at in
    let own : CameRight s F (pending old) old.torn_beyond old.lost_beyond new leaves =
    subst (λ (a : Asked). CameRight (subject_of a s.program) F (pending old) old.torn_beyond old.lost_beyond new leaves) so.asked_is (went.right less stop) in
    let same : F ≡ leaf_case asked.tears at = λ i. leaf_case (so.tears_is i) (so.asked_is i).at in
    let by_case = subst (λ (f : LeafValue → Case). CameRight s f (pending old) old.torn_beyond old.lost_beyond new leaves) same own in
    let from = subst (λ (cs : List Case). CameRight s (leaf_case asked.tears at) cs old.torn_beyond old.lost_beyond new leaves) so.whole by_case in
    let torn = subst (λ n. CameRight s (leaf_case asked.tears at) (whole_case asked.tears ∷ []) n old.lost_beyond new leaves) so.none.0 from in
    subst (λ n. CameRight s (leaf_case asked.tears at) (whole_case asked.tears ∷ []) 0 n new leaves) so.none.1 torn

pub known_so : (asked : Losses) (at : CutValue) (records : RecordsValue) (stops : Stops) (program : Program) (old new : SearchValue) (leaves : List LeafValue) (left : ℕ) (found : KnownAt)
    → CameTo asked at records stops program old new leaves (left + 1) → FoundSo at new leaves found → length leaves ≤ left → IsKnownAt asked at records stops found
known_so asked at records stops program old new leaves left found so is few = by (has_stopped stops leaves) refl
  where
    to : ReachedSo asked at records stops leaves new
    to = reached_so asked at records stops program old new leaves (left + 1) so

    by : (b : Bool) → has_stopped stops leaves ≡ b → IsKnownAt asked at records stops found
    by true stop =
        let came = came_so asked at records stops program old new leaves (left + 1) so (omega (arith, few)) stop in
        record {
          leaves = leaves;
          left = came.left;
          waiting = pending new;
          reached = record { leads = came.leads; endings = to.reached.endings; on = to.reached.on };
          ended = inr stop;
          right = λ stopped. came.right;
          cut = is.cut;
          told = is.told;
          failing = is.failing;
          are_open = is.are_open;
          torn = is.torn ∙ came.torn;
          lost = is.lost ∙ came.lost;
          stopped = is.stopped;
        }
    by false going =
        record {
          leaves = leaves;
          left = to.left;
          waiting = pending new;
          reached = to.reached;
          ended = so.went.ended (omega (arith, few));
          right = λ stopped. absurd (false≢true (sym going ∙ stopped));
          cut = is.cut;
          told = is.told;
          failing = is.failing;
          are_open = is.are_open;
          torn = is.torn ∙ to.torn;
          lost = is.lost ∙ to.lost;
          stopped = is.stopped;
        }

pub few_so : (at : CutValue) (new : SearchValue) (leaves : List LeafValue) (left : ℕ) (found : KnownAt) → FoundSo at new leaves found → length leaves ≤ left → cases_at found ≤ left
few_so at new leaves left found is few =
    let told = is.told in
    let opened : length found.open_cases.items ≡ length (open_of leaves) =
    sym (length-map found.open_cases.items open_sets) ∙ ap (λ (xs : List (List ℕ)). length xs) is.are_open ∙ length-map (open_of leaves) sets_of_leaf in
    let all = told_and_open leaves in
    omega (arith, told, opened, all, few)

pub past_so : (asked : Losses) (at : CutValue) (records : RecordsValue) (stops : Stops) (program : Program) (old new : SearchValue) (leaves : List LeafValue) (left : ℕ)
    → CameTo asked at records stops program old new leaves (left + 1) → left < length leaves → IsPast asked at records stops left
past_so asked at records stops program old new leaves left so many =
    let to = reached_so asked at records stops program old new leaves (left + 1) so in
    record { leaves = leaves; left = to.left; waiting = pending new; reached = to.reached; past = many }

-- as many cases are pending as were taken
pub taken_all : (v : SearchValue) (taken : List (Vec ℕ)) → map (λ (sets : Vec ℕ). case_of v.tears (parts_of v.asked.at) sets.items) taken ≡ pending v → length taken ≡ length (pending v)
taken_all v taken all = sym (length-map taken (λ (sets : Vec ℕ). case_of v.tears (parts_of v.asked.at) sets.items)) ∙ ap (λ (cs : List Case). length cs) all

-- over cuts

pub known_none : (asked : Losses) (log : LogValue) (way : By) (cuts : List ℕ) (records : RecordsValue) (stops : Stops) → AreFirstKnown asked log way cuts records stops 0 []
known_none asked log way cuts records stops = record { count = refl; each = λ i k f one two. absurd (let bad : ◌≡◌ {A = Option KnownAt} None (Some f) = two in cc) }

pub known_more : (asked : Losses) (log : LogValue) (way : By) (cuts : List ℕ) (records : RecordsValue) (stops : Stops) (n : ℕ) (found now : List KnownAt) (k : ℕ) (f : KnownAt)
    → AreFirstKnown asked log way cuts records stops n found → now ≡ found ++ f ∷ [] → slice_get cuts n ≡ Some k → IsKnownAt asked (record { log = log; way = way; cut = k }) records stops f
    → AreFirstKnown asked log way cuts records stops (n + 1) now
known_more asked log way cuts records stops n found now k f so is there own = record {
  count = let many = so.count in ap (λ (fs : List KnownAt). length fs) is ∙ (omega (arith, many, length-append found (f ∷ [])));
  each = λ i j g one two. elim (slice_get_of_push found f i g (subst (λ (fs : List KnownAt). slice_get fs i ≡ Some g) is two)) [
    | inl was ↦ so.each i j g one was
    | inr last ↦
        subst (λ m. IsKnownAt asked (record { log = log; way = way; cut = m }) records stops g) (same i j one (last.0 ∙ so.count))
        (subst (λ (h : KnownAt). IsKnownAt asked (record { log = log; way = way; cut = k }) records stops h) (sym last.1) own)
  ];
}
  where
    same : (i j : ℕ) → slice_get cuts i ≡ Some j → i ≡ n → k ≡ j
    same i j one at_end = let e : Some k ≡ Some j = sym there ∙ ap (λ m. slice_get cuts m) (sym at_end) ∙ one in same_Some k j e

pub known_all : (asked : Losses) (log : LogValue) (way : By) (cuts : List ℕ) (records : RecordsValue) (stops : Stops) (n : ℕ) (found : List KnownAt) → AreFirstKnown asked log way cuts records stops n found
    → n ≡ length cuts → AreKnown asked log way cuts records stops found
known_all asked log way cuts records stops n found so all = subst (λ m. AreFirstKnown asked log way cuts records stops m found) all so

pub counted_more : (was now : ℕ) (found next : List KnownAt) (f : KnownAt) → most_cases ≡ was + cases_in found → cases_at f ≤ was → now ≡ was - cases_at f → next ≡ found ++ f ∷ [] → most_cases ≡ now + cases_in next
counted_more was now found next f so few took put =
    let all = ap (λ (fs : List KnownAt). cases_in fs) put ∙ sum_by_push cases_at found f in
    omega (arith, so, few, took, all)

pub stops_there : (asked : Losses) (log : LogValue) (way : By) (cuts : List ℕ) (records : RecordsValue) (stops : Stops) (n k left : ℕ) (found : List KnownAt) (why : SearchFault)
    → AreFirstKnown asked log way cuts records stops n found → slice_get cuts n ≡ Some k → most_cases ≡ left + cases_in found
    → StopsAt asked (record { log = log; way = way; cut = k }) records stops left why → StopsIn asked log way cuts records stops why
stops_there asked log way cuts records stops n k left found fault.Memory so there counted stop = tt
stops_there asked log way cuts records stops n k left found (fault.TooMany cut) so there counted stop =
    subst (λ m. AreTooMany asked log way cuts records stops m) (sym stop.0)
    (record { place = n; own = there; before = found; are = so; rest = left; counted = counted; past = stop.1 })
