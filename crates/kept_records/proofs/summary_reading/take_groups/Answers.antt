use Rattle.std.proofs.Common.{◌≡◌, ◌∙◌, ◌<◌, ◌≤◌, ap, sym, ℕ, ◌∷◌, List, length, Some, true, false, arith}
use Rattle.kept_records.specs.declared.total.Total.{Total}
use Rattle.kept_records.specs.declared.total.Cut.{Cut}
use Rattle.kept_records.specs.Reading.{groups_from, word_is, is_next_accept, is_next_gift}
use Rattle.kept_records.proofs.SummaryLoops.{cut_step, cut_none, groups_none, groups_end, listed_shorter, cut_shorter, then_accept, then_gift, then_neither}
use Rattle.kept_records.proofs.summary_reading.take_groups.Goals as goal

shrinks : (words ws rest : List (List ℕ)) (l : List ℕ) → words ≡ l ∷ ws → length rest ≤ length ws → length rest < length words
shrinks words ws rest l first shorter = omega (arith, ap length first, shorter)

pub returns-in_default-take_listed_cut : goal.returns-in_default-take_listed_cut
returns-in_default-take_listed_cut c =
    let g = c.loop-letter.gifts.items in
    let a = c.loop-letter.accepts.items in
    let b = c.loop-letter.tightenings.items in
    let is : word_is 116 c.in-Some.letter.now ≡ true = sym c.is_letter.ensures ∙ c.if-is_letter.true in
    cut_none g a b c.in-Some.letter.now c.next.new.self _ is c.in_default-take_listed_cut.ensures
    (ap (λ (ws : List (List ℕ)). groups_from g a b ws) (sym c.in-Some.ensures.first) ∙ c.loop-letter.invariant)

pub loop-letter-smaller-in-Continue-1 : goal.loop-letter-smaller-in-Continue-1
loop-letter-smaller-in-Continue-1 c =
    let shorter = cut_shorter c.next.new.self c.in-Some-take_listed_cut.cut c.take_listed_cut.new.words c.in-Some-take_listed_cut.ensures in
    shrinks c.loop-letter.words c.next.new.self c.take_listed_cut.new.words c.in-Some.letter.now c.in-Some.ensures.first shorter

pub loop-letter-preserved-in-Continue-1 : goal.loop-letter-preserved-in-Continue-1
loop-letter-preserved-in-Continue-1 c =
    let g = c.loop-letter.gifts.items in
    let a = c.loop-letter.accepts.items in
    let b = c.loop-letter.tightenings.items in
    let rest = c.take_listed_cut.new.words in
    let is : word_is 116 c.in-Some.letter.now ≡ true = sym c.is_letter.ensures ∙ c.if-is_letter.true in
    let so_far = ap (λ (ws : List (List ℕ)). groups_from g a b ws) (sym c.in-Some.ensures.first) ∙ c.loop-letter.invariant in
    ap (λ (x : List Cut). groups_from g a x rest) c.in_ok-push.ensures.items
    ∙ cut_step g a b c.in-Some.letter.now c.next.new.self c.in-Some-take_listed_cut.cut rest _ is c.in-Some-take_listed_cut.ensures so_far

pub returns-in_default-take_listed : goal.returns-in_default-take_listed
returns-in_default-take_listed c =
    let g = c.loop-letter.gifts.items in
    let a = c.loop-letter.accepts.items in
    let b = c.loop-letter.tightenings.items in
    let isnt : word_is 116 c.in-Some.letter.now ≡ false = sym c.is_letter.ensures ∙ c.if-is_letter.false in
    groups_none g a b c.in-Some.letter.now c.next.new.self _ isnt c.in_default-take_listed.ensures
    (ap (λ (ws : List (List ℕ)). groups_from g a b ws) (sym c.in-Some.ensures.first) ∙ c.loop-letter.invariant)

pub loop-letter-smaller-in-Continue-branch-2 : goal.loop-letter-smaller-in-Continue-branch-2
loop-letter-smaller-in-Continue-branch-2 c =
    let shorter = listed_shorter c.next.new.self c.in-Some-take_listed.told c.take_listed.new.words c.in-Some-take_listed.ensures in
    shrinks c.loop-letter.words c.next.new.self c.take_listed.new.words c.in-Some.letter.now c.in-Some.ensures.first shorter

pub loop-letter-preserved-in-Continue-branch-2 : goal.loop-letter-preserved-in-Continue-branch-2
loop-letter-preserved-in-Continue-branch-2 c =
    let g = c.loop-letter.gifts.items in
    let a = c.loop-letter.accepts.items in
    let b = c.loop-letter.tightenings.items in
    let l = c.in-Some.letter.now in
    let rest = c.take_listed.new.words in
    let isnt : word_is 116 l ≡ false = sym c.is_letter.ensures ∙ c.if-is_letter.false in
    let is : is_next_accept l b ≡ true = rw c.deref.ensures.value at (sym c.is_next_accept.ensures ∙ c.if-is_next_accept.true) in
    let so_far = ap (λ (ws : List (List ℕ)). groups_from g a b ws) (sym c.in-Some.ensures.first) ∙ c.loop-letter.invariant in
    ap (λ (x : List Total). groups_from g x b rest) c.in_ok-push-2.ensures.items
    ∙ then_accept g a b l c.next.new.self c.in-Some-take_listed.told rest _ isnt c.in-Some-take_listed.ensures so_far is

pub loop-letter-smaller : goal.loop-letter-smaller
loop-letter-smaller c =
    let shorter = listed_shorter c.next.new.self c.in-Some-take_listed.told c.take_listed.new.words c.in-Some-take_listed.ensures in
    shrinks c.loop-letter.words c.next.new.self c.take_listed.new.words c.in-Some.letter.now c.in-Some.ensures.first shorter

pub loop-letter-preserved : goal.loop-letter-preserved
loop-letter-preserved c =
    let g = c.loop-letter.gifts.items in
    let a = c.loop-letter.accepts.items in
    let b = c.loop-letter.tightenings.items in
    let l = c.in-Some.letter.now in
    let rest = c.take_listed.new.words in
    let isnt : word_is 116 l ≡ false = sym c.is_letter.ensures ∙ c.if-is_letter.false in
    let off : is_next_accept l b ≡ false = rw c.deref.ensures.value at (sym c.is_next_accept.ensures ∙ c.if-is_next_accept.false) in
    let is : is_next_gift l a b ≡ true = cc (c.is_next_gift.ensures, c.if-is_next_gift.true) in
    let so_far = ap (λ (ws : List (List ℕ)). groups_from g a b ws) (sym c.in-Some.ensures.first) ∙ c.loop-letter.invariant in
    ap (λ (x : List Total). groups_from x a b rest) c.in_ok-push-3.ensures.items
    ∙ then_gift g a b l c.next.new.self c.in-Some-take_listed.told rest _ isnt c.in-Some-take_listed.ensures so_far off is

pub returns-else-is_next_gift : goal.returns-else-is_next_gift
returns-else-is_next_gift c =
    let g = c.loop-letter.gifts.items in
    let a = c.loop-letter.accepts.items in
    let b = c.loop-letter.tightenings.items in
    let l = c.in-Some.letter.now in
    let isnt : word_is 116 l ≡ false = sym c.is_letter.ensures ∙ c.if-is_letter.false in
    let off : is_next_accept l b ≡ false = rw c.deref.ensures.value at (sym c.is_next_accept.ensures ∙ c.if-is_next_accept.false) in
    let no_gift : is_next_gift l a b ≡ false = cc (c.is_next_gift.ensures, c.if-is_next_gift.false) in
    let so_far = ap (λ (ws : List (List ℕ)). groups_from g a b ws) (sym c.in-Some.ensures.first) ∙ c.loop-letter.invariant in
    then_neither g a b l c.next.new.self c.in-Some-take_listed.told c.take_listed.new.words _ isnt c.in-Some-take_listed.ensures so_far off
    no_gift

pub returns : goal.returns
returns c =
    groups_end c.loop-letter.gifts.items c.loop-letter.accepts.items c.loop-letter.tightenings.items _
    (ap (λ (ws : List (List ℕ)). groups_from c.loop-letter.gifts.items c.loop-letter.accepts.items c.loop-letter.tightenings.items ws)
    (sym c.in_default.ensures.first) ∙ c.loop-letter.invariant)
    ∙ ap (λ (x : List Total). Some (x, c.loop-letter.accepts.items, c.loop-letter.tightenings.items)) (sym c.new.ensures.all)
    ∙ ap (λ (x : List Total). Some (c.new.result, x, c.loop-letter.tightenings.items)) (sym c.new-2.ensures.all)
    ∙ ap (λ (x : List Cut). Some (c.new.result, c.new-2.result, x)) (sym c.new-3.ensures.all)
