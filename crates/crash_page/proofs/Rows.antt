-- Texts of the cuts and programs of a page, element after element: what is written, before what is still to come.
use Rattle.std.proofs.Common.{ℕ, ◌≡◌, ◌+◌, ◌-◌, ◌<◌, ◌≤◌, All, List, [], ◌∷◌, ◌++◌, length, map, drop, get_or, slice_get, Option, Some, None, option_map, refl, sym, ap, subst, ◌∙◌, arith}
use Rattle.std.proofs.lemmas.Option.{same_Some, slice_get_read, slice_get-get_or, slice_get-map}
use Rattle.std.proofs.lemmas.List.{append-nil, length-map}
use Rattle.logfmt.specs.Bounds.{LogValue}
use Rattle.choices.specs.Sums.{StartsValue}
use Rattle.losses.specs.declared.why.cut.CutFailures.{CutFailures}
use Rattle.page_parts.specs.declared.cut.Showing.{Showing}
use Rattle.page_parts.specs.declared.counts.CutCount.{CutCount}
use Rattle.crash_page.specs.Counts.{image_count}
use Rattle.crash_page.specs.declared.program.ProgramFailures.{ProgramFailures}
use Rattle.page_parts.specs.Cuts.{shown_of, one_failing, showing}
use Rattle.crash_page.specs.Groups.{listed_text, cuts_text}
use Rattle.crash_page.specs.Page.{program_text, programs_text, IsOfRun}
use Rattle.page_parts.proofs.Rows.{drop_next, drop_all, next_piece}

-- the cuts of a run are cuts of its log
pub counts_within : (s : StartsValue) (lines : ℕ) (l : LogValue) (cs : List CutFailures) (counts : List CutCount) → s.plan.log ≡ l → All (IsOfRun s lines) cs → counts ≡ map image_count cs
    → All (λ (c : CutCount). c.cut ≤ length l.entries) counts
counts_within s lines l cs counts same are is = subst (λ xs. All (λ (c : CutCount). c.cut ≤ length l.entries) xs) (sym is) each
  where
    own : (k : ℕ) (d : CutCount) → k < length (map image_count cs) → (o : Option CutFailures) → slice_get cs k ≡ o → (get_or (map image_count cs) k d).cut ≤ length l.entries
    own k d lt None at =
        let none : slice_get (map image_count cs) k ≡ None = slice_get-map image_count cs k ∙ ap (option_map image_count) at in
        let there : slice_get (map image_count cs) k ≡ Some (get_or (map image_count cs) k d) = slice_get-get_or (map image_count cs) k d lt in
        absurd (let bad : None ≡ Some (get_or (map image_count cs) k d) = sym none ∙ there in cc)
    own k d lt (Some c) at =
        let some : slice_get (map image_count cs) k ≡ Some (image_count c) = slice_get-map image_count cs k ∙ ap (option_map image_count) at in
        let there : slice_get (map image_count cs) k ≡ Some (get_or (map image_count cs) k d) = slice_get-get_or (map image_count cs) k d lt in
        let same_one : image_count c ≡ get_or (map image_count cs) k d = same_Some (image_count c) (get_or (map image_count cs) k d) (sym some ∙ there) in
        let inside : k < length cs = let long = length-map cs image_count in omega (arith, lt, long) in
        let here : slice_get cs k ≡ Some (get_or cs k c) = slice_get-get_or cs k c inside in
        let same_cut : c ≡ get_or cs k c = same_Some c (get_or cs k c) (sym at ∙ here) in
        let cut = (are k c inside).cut in
        let long = ap (λ (x : LogValue). length x.entries) same in
        let one : c.cut ≡ (get_or (map image_count cs) k d).cut = ap (λ (x : CutCount). x.cut) same_one in
        let other : c.cut ≡ (get_or cs k c).cut = ap (λ (x : CutFailures). x.cut) same_cut in
        omega (arith, cut, long, one, other)

    each : All (λ (c : CutCount). c.cut ≤ length l.entries) (map image_count cs)
    each = λ k d lt. own k d lt (slice_get cs k) refl

pub cuts_more : (s : StartsValue) (outcomes : List (List ℕ)) (program most lines fewer left less n : ℕ) (cs : List CutFailures) (c : CutFailures) (how : Showing) (start before now : List ℕ)
    → n < length cs → c ≡ get_or cs n c → how ≡ showing program lines left (length c.groups.items) → less ≡ left - how.rows → fewer ≡ lines - one_failing c.failing
    → before ++ cuts_text s outcomes program lines left (drop n cs) ≡ start ++ cuts_text s outcomes program 1000 most cs → now ≡ before ++ listed_text s outcomes lines how c
    → now ++ cuts_text s outcomes program fewer less (drop (n + 1) cs) ≡ start ++ cuts_text s outcomes program 1000 most cs
cuts_more s outcomes program most lines fewer left less n cs c how start before now within is told lower later so_far written =
    let split : drop n cs ≡ c ∷ drop (n + 1) cs = drop_next cs n c (slice_get_read cs (length cs) n c refl within is) in
    let opened : before ++ (listed_text s outcomes lines (showing program lines left (length c.groups.items)) c ++ cuts_text s outcomes program (lines - one_failing c.failing) (left - shown_of left (length c.groups.items)) (drop (n + 1) cs)) ≡ start ++ cuts_text s outcomes program 1000 most cs =
    ap (λ (rest : List CutFailures). before ++ cuts_text s outcomes program lines left rest) (sym split) ∙ so_far in
    rw (lower ∙ ap (λ (h : Showing). left - h.rows) told, later)
    (next_piece start before (listed_text s outcomes lines (showing program lines left (length c.groups.items)) c) now _ _ opened (written ∙ ap (λ (h : Showing). before ++ listed_text s outcomes lines h c) told))

pub cuts_end : (s : StartsValue) (outcomes : List (List ℕ)) (program most lines left n : ℕ) (cs : List CutFailures) (start before : List ℕ) → length cs ≤ n
    → before ++ cuts_text s outcomes program lines left (drop n cs) ≡ start ++ cuts_text s outcomes program 1000 most cs → before ≡ start ++ cuts_text s outcomes program 1000 most cs
cuts_end s outcomes program most lines left n cs start before past so_far =
    sym (ap (λ (rest : List CutFailures). before ++ cuts_text s outcomes program lines left rest) (drop_all cs n past) ∙ append-nil before) ∙ so_far

pub programs_more : (s : StartsValue) (n : ℕ) (fs : List ProgramFailures) (f : ProgramFailures) (start before now : List ℕ) → n < length fs → f ≡ get_or fs n f
    → before ++ programs_text s n (drop n fs) ≡ start ++ programs_text s 0 fs → now ≡ before ++ program_text s n f
    → now ++ programs_text s (n + 1) (drop (n + 1) fs) ≡ start ++ programs_text s 0 fs
programs_more s n fs f start before now within is so_far written =
    let split : drop n fs ≡ f ∷ drop (n + 1) fs = drop_next fs n f (slice_get_read fs (length fs) n f refl within is) in
    let opened : before ++ (program_text s n f ++ programs_text s (n + 1) (drop (n + 1) fs)) ≡ start ++ programs_text s 0 fs =
    ap (λ (rest : List ProgramFailures). before ++ programs_text s n rest) (sym split) ∙ so_far in
    next_piece start before (program_text s n f) now _ _ opened written

pub programs_end : (s : StartsValue) (n : ℕ) (fs : List ProgramFailures) (start before : List ℕ) → length fs ≤ n
    → before ++ programs_text s n (drop n fs) ≡ start ++ programs_text s 0 fs → before ≡ start ++ programs_text s 0 fs
programs_end s n fs start before past so_far =
    sym (ap (λ (rest : List ProgramFailures). before ++ programs_text s n rest) (drop_all fs n past) ∙ append-nil before) ∙ so_far
