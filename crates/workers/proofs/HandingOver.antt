-- What workers hand over, as they take blocks, and when all are back.
use Rattle.std.proofs.Common.{ℕ, zero, suc, ◌≡◌, ◌+◌, ◌-◌, ◌*◌, min, if◌then◌else◌, IfSome, ◌<◌, ◌≤◌, ⊎_elim, Bool, true, false, ◌&&◌, nat_lt, nat_le, eqb, List, [], ◌∷◌, ◌++◌, Option, None, Some, refl, sym, ◌∙◌, ap, subst, arith}
use Rattle.std.proofs.lemmas.Bool.Decides.{eqb_tells, leb_tells, nat_tests}
use Rattle.std.proofs.lemmas.Grind.{flat_map-append}
use Rattle.report.specs.Line.{FailingLine}
use Rattle.shares.specs.declared.view.SeatStep.{SeatStep}
use Rattle.shares.specs.declared.view.SeatStep.TheVariants.{Drew, Posted, SawLeast}
use Rattle.shares.specs.Steps.{bit, none_posted, posted_it, found_it, posts, finds, image_or_none, shown_next, next_seen, late_draws}
use Rattle.shares.specs.Seats.{SeatValue, DrawsNone}
use Rattle.shares.specs.Hands.{PostsNothing}
use Rattle.shares.proofs.Lists.{total_append, total_snoc, greatest_snoc}
use Rattle.workers.specs.declared.found.BlockFound.{BlockFound}
use Rattle.workers.specs.declared.found.BlockFound.TheVariants.{Lines, Passed}
use Rattle.workers.specs.Counting.{reaches}
use Rattle.workers.specs.Exploring.{passes_over}
use Rattle.workers.specs.Failing.{Subject, judged_count, part}
use Rattle.workers.specs.Least.{lower, least_image}
use Rattle.workers.specs.Pieces.{PieceValue, EachPiece, HasPart, passes, block_count, lines_of, full_lines, piece_of}
use Rattle.workers.specs.Taking.{IsSeen, HandsOver, KeepsPosts, AddsPiece}
use Rattle.workers.proofs.Least.{least_append, least_of_push}
use Rattle.workers.proofs.Runs.{each_push}
use Rattle.workers.proofs.Sets.{Each, each_then, of_range}

pub nothing_yet : (s : Subject) → HandsOver s [] []
nothing_yet s = record {
  own = λ i p there. absurd (let bad : None ≡ Some p = there in cc);
  full = λ all i p there. absurd (let bad : None ≡ Some p = there in cc);
  seen = λ i p there. absurd (let bad : None ≡ Some p = there in cc);
  posted = λ image often. absurd (omega (arith, often));
}

-- more steps

seen_more : (before after : List SeatStep) → ((image : ℕ) → finds image before ≤ finds image after) → (block : ℕ) (found : BlockFound) → IsSeen before block found → IsSeen after block found
seen_more before after more block (Lines own) h = tt
seen_more before after more block (Passed image) h = (h.0, omega (arith, h.1, more image))

pub keeps_posts : (s : Subject) (before after : List SeatStep) (ps : List PieceValue) → KeepsPosts before after → HandsOver s before ps → HandsOver s after ps
keeps_posts s before after ps keeps h = record {
  own = h.own;
  full = h.full;
  seen = λ i p there. seen_more before after keeps.found p.block p.found (h.seen i p there);
  posted = λ image often. h.posted image (omega (arith, often, keeps.posted image));
}

pub same_steps : (steps : List SeatStep) → KeepsPosts steps steps
same_steps steps = record { posted = λ image. refl; found = λ image. omega arith }

quiet : (steps : List SeatStep) (made : SeatStep) → ((image : ℕ) → posted_it image made ≡ 0) → KeepsPosts steps (steps ++ made ∷ [])
quiet steps made none_posts = record {
  posted = λ image. omega (arith, total_snoc (posted_it image) steps made, none_posts image);
  found = λ image. omega (arith, total_snoc (found_it image) steps made);
}

pub drew_quiet : (steps : List SeatStep) (found : ℕ) → KeepsPosts steps (steps ++ Drew found ∷ [])
drew_quiet steps found = quiet steps (Drew found) (λ image. refl)

pub saw_quiet : (steps : List SeatStep) (found : ℕ) → KeepsPosts steps (steps ++ SawLeast found ∷ [])
saw_quiet steps found = quiet steps (SawLeast found) (λ image. refl)

-- what was found by a load is found in the steps
pub saw_found : (steps : List SeatStep) (found : ℕ) → 0 < finds found (steps ++ SawLeast found ∷ [])
saw_found steps found =
    let one : bit (eqb found found) ≡ 1 = ⊎_elim (λ t. ap bit t.0) (λ t. absurd (t.1 refl)) (eqb_tells found found) in
    omega (arith, total_snoc (found_it found) steps (SawLeast found))

-- one more piece

pub reaches_left : (a b : Option ℕ) (image : ℕ) → reaches a image ≡ true → reaches (lower a b) image ≡ true
reaches_left None b image e = absurd (let bad : false ≡ true = e in cc)
reaches_left (Some n) None image e = e
reaches_left (Some n) (Some m) image e = grind (arith, nat_tests, e)

pub reaches_right : (a b : Option ℕ) (image : ℕ) → reaches b image ≡ true → reaches (lower a b) image ≡ true
reaches_right None b image e = e
reaches_right (Some n) None image e = absurd (let bad : false ≡ true = e in cc)
reaches_right (Some n) (Some m) image e = grind (arith, nat_tests, e)

more : (s : Subject) (steps : List SeatStep) (ps : List PieceValue) (p : PieceValue) → HandsOver s steps ps
    → p.block < block_count s → HasPart s p.block p.found → (s.first ≡ false → passes p.found ≡ false) → IsSeen steps p.block p.found → HandsOver s steps (ps ++ p ∷ [])
more s steps ps p h lt part_is full seen = record {
  own = each_push (λ q. (q.block < block_count s) × HasPart s q.block q.found) ps p h.own (lt, part_is);
  full = λ all. each_push (λ q. passes q.found ≡ false) ps p (h.full all) (full all);
  seen = each_push (λ q. IsSeen steps q.block q.found) ps p h.seen seen;
  posted = λ image often. rw (← (least_of_push ps p)) (reaches_left (least_image (full_lines ps)) (least_image (lines_of p.found)) (s.from + image) (h.posted image often));
}

pub adds_passed : (s : Subject) (block image : ℕ) (before after : List SeatStep) → KeepsPosts before after → block < block_count s → passes_over s block image ≡ true → 0 < finds image after
    → AddsPiece s block before after (record { block = block; found = Passed image })
adds_passed s block image before after keeps lt passed found = record {
  block_is = refl;
  adds = λ ps h.
      more s after ps (record { block = block; found = Passed image }) (keeps_posts s before after ps keeps h) lt tt
      (λ all. absurd (let bad : false ≡ true = sym (ap (λ b. b && nat_lt image (64 * block)) all) ∙ passed in cc)) (beyond s.first (nat_lt image (64 * block)) refl passed, found);
}
  where
    beyond : (a b : Bool) → nat_lt image (64 * block) ≡ b → (a && b) ≡ true → image < 64 * block
    beyond true true e h = grind (arith, nat_tests, e)
    beyond true false e h = absurd (let bad : false ≡ true = h in cc)
    beyond false b e h = absurd (let bad : false ≡ true = h in cc)

pub full_more : (s : Subject) (block : ℕ) (steps : List SeatStep) (ps : List PieceValue) → HandsOver s steps ps → block < block_count s → HandsOver s steps (ps ++ piece_of s block ∷ [])
full_more s block steps ps h lt = more s steps ps (piece_of s block) h lt refl (λ all. refl) tt

pub adds_full : (s : Subject) (block : ℕ) (before after : List SeatStep) → KeepsPosts before after → block < block_count s → AddsPiece s block before after (piece_of s block)
adds_full s block before after keeps lt = record { block_is = refl; adds = λ ps h. full_more s block after ps (keeps_posts s before after ps keeps h) lt }

-- with its first failing image posted
posts_own : (s : Subject) (steps : List SeatStep) (ps : List PieceValue) (image found : ℕ) → HandsOver s steps ps → reaches (least_image (full_lines ps)) (s.from + image) ≡ true
    → HandsOver s (steps ++ Posted image found ∷ []) ps
posts_own s steps ps image found h reached = record {
  own = h.own;
  full = h.full;
  seen = λ i p there. seen_more steps (steps ++ Posted image found ∷ []) (λ other. omega (arith, total_snoc (found_it other) steps (Posted image found))) p.block p.found (h.seen i p there);
  posted = λ other often. ⊎_elim
      (λ t. rw (← t.1) reached)
      (λ t. let none_here : bit (eqb image other) ≡ 0 = ap bit t.0 in h.posted other (omega (arith, often, total_snoc (posted_it other) steps (Posted image found))))
      (eqb_tells image other);
}

pub adds_posted : (s : Subject) (block image found : ℕ) (before after : List SeatStep) → KeepsPosts before after → block < block_count s → least_image (part s block) ≡ Some (s.from + image)
    → AddsPiece s block before (after ++ Posted image found ∷ []) (piece_of s block)
adds_posted s block image found before after keeps lt least_is = record {
  block_is = refl;
  adds = λ ps h.
      let same : nat_le (s.from + image) (s.from + image) ≡ true = grind (arith, nat_tests) in
      let own : reaches (least_image (part s block)) (s.from + image) ≡ true = rw least_is same in
      posts_own s after (ps ++ piece_of s block ∷ []) image found
      (full_more s block after ps (keeps_posts s before after ps keeps h) lt)
      (rw (← (least_of_push ps (piece_of s block))) (reaches_right (least_image (full_lines ps)) (least_image (part s block)) (s.from + image) own));
}

-- two workers together

each_both : (P : PieceValue → Type 0) (ps qs : List PieceValue) → EachPiece P ps → EachPiece P qs → EachPiece P (ps ++ qs)
each_both P [] qs h g i q there = g i q there
each_both P (p ∷ ps) qs h g zero q there = let same : p ≡ q = (let e : Some p ≡ Some q = there in cc) in subst P same (h 0 p refl)
each_both P (p ∷ ps) qs h g (suc i) q there = each_both P ps qs (λ j r at. h (suc j) r at) g i q there

pub both : (s : Subject) (steps more_steps : List SeatStep) (ps qs : List PieceValue) → HandsOver s steps ps → HandsOver s more_steps qs → HandsOver s (steps ++ more_steps) (ps ++ qs)
both s steps more_steps ps qs h g = record {
  own = each_both (λ p. (p.block < block_count s) × HasPart s p.block p.found) ps qs h.own g.own;
  full = λ all. each_both (λ p. passes p.found ≡ false) ps qs (h.full all) (g.full all);
  seen = each_both (λ p. IsSeen (steps ++ more_steps) p.block p.found) ps qs
      (λ i p there. seen_more steps (steps ++ more_steps) (λ image. omega (arith, total_append (found_it image) steps more_steps)) p.block p.found (h.seen i p there))
      (λ i p there. seen_more more_steps (steps ++ more_steps) (λ image. omega (arith, total_append (found_it image) steps more_steps)) p.block p.found (g.seen i p there));
  posted = λ image often. rw (lines_both, least_append (full_lines ps) (full_lines qs))
      (⊎_elim
      (λ t. reaches_left (least_image (full_lines ps)) (least_image (full_lines qs)) (s.from + image) (h.posted image (omega (arith, t.1))))
      (λ t. reaches_right (least_image (full_lines ps)) (least_image (full_lines qs)) (s.from + image) (g.posted image (omega (arith, t.1, often, total_append (posted_it image) steps more_steps))))
      (leb_tells 1 (posts image steps)));
}
  where
    lines_both : full_lines (ps ++ qs) ≡ full_lines ps ++ full_lines qs
    lines_both = flat_map-append (λ (p : PieceValue). lines_of p.found) ps qs

-- what a worker's steps do to what it hands over

pub seen_later : (made : SeatStep) (before after : List SeatStep) → after ≡ before ++ made ∷ [] → next_seen before ≤ next_seen after
seen_later made before after e = let same = ap next_seen e in omega (arith, greatest_snoc shown_next before made)

pub drew_seen : (found : ℕ) (before after : List SeatStep) → after ≡ before ++ Drew found ∷ [] → found + 1 ≤ next_seen after
drew_seen found before after e = let same = ap next_seen e in omega (arith, greatest_snoc shown_next before (Drew found))

pub drew_keeps : (found : ℕ) (before after : List SeatStep) → after ≡ before ++ Drew found ∷ [] → KeepsPosts before after
drew_keeps found before after e = subst (KeepsPosts before) (sym e) (drew_quiet before found)

pub nothing_keeps : (before after : List SeatStep) → PostsNothing before after → KeepsPosts before after
nothing_keeps before after h = record {
  posted = λ image. rw h.steps (omega (arith, total_append (posted_it image) before h.made, h.silent image));
  found = λ image. rw h.steps (omega (arith, total_append (found_it image) before h.made));
}

pub saw_keeps : (found : ℕ) (before after : List SeatStep) → after ≡ before ++ SawLeast found ∷ [] → KeepsPosts before after
saw_keeps found before after e = subst (KeepsPosts before) (sym e) (saw_quiet before found)

pub draws_none_keeps : (before after : SeatValue) → DrawsNone before after → KeepsPosts before.steps after.steps
draws_none_keeps before after h = ⊎_elim
    (λ t. subst (KeepsPosts before.steps) (sym (h.0 (omega (arith, t.1)))) (same_steps before.steps))
    (λ t. let drew = h.1 (λ ended. absurd (omega (arith, t.1, ended))) in drew_keeps drew.0 before.steps after.steps drew.2)
    (leb_tells 1 (late_draws before.board.blocks before.steps))

image_is : (found image : ℕ) (o : Option ℕ) → o ≡ image_or_none found → o ≡ Some image → found ≡ image
image_is found image o e f = step (eqb found none_posted) (sym e ∙ f)
  where
    step : (b : Bool) → (if b then None else Some found) ≡ Some image → found ≡ image
    step true g = absurd (let bad : None ≡ Some image = g in cc)
    step false g = cc

pub least_found : (found image : ℕ) (o : Option ℕ) (before after : List SeatStep) → o ≡ image_or_none found → o ≡ Some image → after ≡ before ++ SawLeast found ∷ [] → 0 < finds image after
least_found found image o before after e f g =
    let there : 0 < finds found after = rw g (saw_found before found) in
    subst (λ (i : ℕ). 0 < finds i after) (image_is found image o e f) there

pub adds_last : (s : Subject) (block image found : ℕ) (before after last : List SeatStep) (p : PieceValue) → KeepsPosts before after → last ≡ after ++ Posted image found ∷ [] → p ≡ piece_of s block
    → block < block_count s → least_image (lines_of p.found) ≡ Some (s.from + image) → AddsPiece s block before last p
adds_last s block image found before after last p keeps e f lt least_is =
    let least_part : least_image (part s block) ≡ Some (s.from + image) = ap (λ (q : PieceValue). least_image (lines_of q.found)) (sym f) ∙ least_is in
    rw (e, f) (adds_posted s block image found before after keeps lt least_part)

-- the least image of a block is one that is judged

least_each : (P : ℕ → Type 0) (ls : List FailingLine) → Each (λ l. P l.image) ls → IfSome (least_image ls) P
least_each P [] h = tt
least_each P (l ∷ ls) h = step (least_image ls) (least_each P ls h.1)
  where
    step : (o : Option ℕ) → IfSome o P → IfSome (lower (Some l.image) o) P
    step None g = h.0
    step (Some m) g = ⊎_elim
        (λ t. let e : l.image ≡ min l.image m = omega (arith, t.1) in subst P e h.0)
        (λ t. let e : m ≡ min l.image m = omega (arith, t.1) in subst P e g)
        (leb_tells l.image m)

part_judged : (s : Subject) (b : ℕ) → Each (λ l. (s.from ≤ l.image) × (l.image < s.to)) (part s b)
unfolding part
part_judged s b = each_then _ _ _ (λ l is. (omega (arith, is.0), omega (arith, is.0, is.1))) (of_range s (s.from + 64 * b) (min 64 (judged_count s - 64 * b)))

pub least_judged : (s : Subject) (p : PieceValue) (image : ℕ) (o : Option ℕ) → p ≡ piece_of s p.block → o ≡ least_image (lines_of p.found) → o ≡ Some image
    → (s.from ≤ image) × (image < s.to)
least_judged s p image o e f g =
    let found : least_image (part s p.block) ≡ Some image = ap (λ (q : PieceValue). least_image (lines_of q.found)) (sym e) ∙ sym f ∙ g in
    subst (λ (x : Option ℕ). IfSome x (λ i. (s.from ≤ i) × (i < s.to))) found
    (least_each (λ i. (s.from ≤ i) × (i < s.to)) (part s p.block) (part_judged s p.block))
