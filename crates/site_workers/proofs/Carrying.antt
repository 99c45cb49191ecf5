-- What a courier has done after one letter more.
use Rattle.std.proofs.Common.{◌≡◌, ◌≢◌, ℕ, zero, suc, ◌+◌, ◌<◌, ◌≤◌, Bool, true, false, true≢false, List, [], ◌∷◌, ◌++◌, length, set, sym, refl, ap, ◌∙◌, subst, arith, slice_index_or, replicate, append-nil, append_assoc, get_or-set_other, take, ⊎_elim, length-append}
use Rattle.std.proofs.lemmas.List.{take_more, get_or-set_same, length-set}
use Rattle.std.specs.List.{Contains}
use Rattle.std.proofs.lemmas.List.Elements.{Contains-append_left, Contains-push, Contains-push_cases}
use native.Mathlib.Decide.{ℕ_discrete}
use mathlib.Core.Logic.{dite}
use Rattle.field_bounds.specs.declared.id.SiteNo.{SiteNo}
use Rattle.field_bounds.specs.declared.entry.Statement.{Statement}
use Rattle.field_bounds.specs.declared.entry.Command.{Command}
use Rattle.field_bounds.specs.declared.entry.Command.TheVariants.{Accept}
use Rattle.site_desk.specs.declared.locked.Receipt.{Receipt}
use Rattle.site_workers.specs.declared.inbox.Letter.{Letter}
use Rattle.site_workers.specs.declared.inbox.Letter.TheVariants.{Stated, End}
use Rattle.site_workers.specs.Inboxes.{site_no}
use Rattle.site_workers.specs.Carried.{accepts_of, commands_of, Carries, StopsShort, Progress}

accepts_stated : (xs : List Letter) (s : Statement) → accepts_of (xs ++ Stated s ∷ []) ≡ accepts_of xs ++ Accept s ∷ []
accepts_stated [] s = refl
accepts_stated (Stated t ∷ xs) s = ap (λ l. Accept t ∷ l) (accepts_stated xs s)
accepts_stated (End site ∷ xs) s = accepts_stated xs s

accepts_end : (xs : List Letter) (site : SiteNo) → accepts_of (xs ++ End site ∷ []) ≡ accepts_of xs
accepts_end [] site = refl
accepts_end (Stated t ∷ xs) site = ap (λ l. Accept t ∷ l) (accepts_end xs site)
accepts_end (End other ∷ xs) site = accepts_end xs site

commands_more : (rs : List Receipt) (r : Receipt) → commands_of (rs ++ r ∷ []) ≡ commands_of rs ++ r.entry.command ∷ []
commands_more [] r = refl
commands_more (q ∷ rs) r = ap (λ l. q.entry.command ∷ l) (commands_more rs r)

no_letter : (x : Letter) → Contains [] x → ⊥
no_letter x has = omega (arith, has.1)

none_marked : (sites n : ℕ) → slice_index_or (replicate sites false) n false ≡ false
none_marked zero n = refl
none_marked (suc k) zero = refl
none_marked (suc k) (suc n) = none_marked k n

pub begins : (taken : List Letter) (ended : List Bool) → ((n : ℕ) → slice_index_or ended n false ≡ false) → Progress taken taken ended []
begins taken ended none = record {
  gained = [];
  taken = sym (append-nil taken);
  accepted = refl;
  marked = λ n marked. absurd (true≢false (sym marked ∙ none n));
  no_other = λ n below off has. no_letter (End (site_no n)) has;
}

-- which letters a longer list lacks
is_end : Letter → Bool
is_end (Stated s) = false
is_end (End site) = true

end_of : Letter → ℕ
end_of (Stated s) = 0
end_of (End site) = site.0

stated_no_end : (gained : List Letter) (s : Statement) (n : ℕ) → (Contains gained (End (site_no n)) → ⊥)
    → Contains (gained ++ Stated s ∷ []) (End (site_no n)) → ⊥
unfolding is_end
stated_no_end gained s n none has =
    ⊎_elim (λ (before : Contains gained (End (site_no n))). none before)
    (λ (last : Stated s ≡ End (site_no n)). true≢false (sym (ap is_end last)))
    (Contains-push_cases gained (Stated s) (End (site_no n)) has)

end_of_other : (gained : List Letter) (site : SiteNo) (n : ℕ) → n ≢ site.0 → (Contains gained (End (site_no n)) → ⊥)
    → Contains (gained ++ End site ∷ []) (End (site_no n)) → ⊥
unfolding end_of
end_of_other gained site n other none has =
    ⊎_elim (λ (before : Contains gained (End (site_no n))). none before)
    (λ (last : End site ≡ End (site_no n)). other (sym (ap end_of last))) (Contains-push_cases gained (End site) (End (site_no n)) has)

pub accepts : (start now : List Letter) (ended : List Bool) (rs : List Receipt) (s : Statement) (r : Receipt) → Progress start now ended rs
    → r.entry.command ≡ Accept s
    → Progress start (now ++ Stated s ∷ []) ended (rs ++ r ∷ [])
accepts start now ended rs s r p is = record {
  gained = p.gained ++ Stated s ∷ [];
  taken = ap (λ l. l ++ Stated s ∷ []) p.taken ∙ append_assoc start p.gained (Stated s ∷ []);
  accepted = commands_more rs r ∙ (ap (λ c. commands_of rs ++ c ∷ []) is
      ∙ (ap (λ l. l ++ Accept s ∷ []) p.accepted ∙ sym (accepts_stated p.gained s)));
  marked = λ n marked. Contains-append_left p.gained (Stated s ∷ []) (End (site_no n)) (p.marked n marked);
  no_other = λ n below off. stated_no_end p.gained s n (p.no_other n below off);
}

-- an End of no site that is marked
pub skips : (start now : List Letter) (ended : List Bool) (rs : List Receipt) (site : SiteNo) → length ended ≤ site.0
    → Progress start now ended rs → Progress start (now ++ End site ∷ []) ended rs
skips start now ended rs site past p = record {
  gained = p.gained ++ End site ∷ [];
  taken = ap (λ l. l ++ End site ∷ []) p.taken ∙ append_assoc start p.gained (End site ∷ []);
  accepted = p.accepted ∙ sym (accepts_end p.gained site);
  marked = λ n marked. Contains-append_left p.gained (End site ∷ []) (End (site_no n)) (p.marked n marked);
  no_other = λ n below off. end_of_other p.gained site n (λ (same : n ≡ site.0). absurd (omega arith)) (p.no_other n below off);
}

pub ends : (start now : List Letter) (ended : List Bool) (rs : List Receipt) (site : SiteNo) → site.0 < length ended
    → Progress start now ended rs → Progress start (now ++ End site ∷ []) (set ended site.0 true) rs
ends start now ended rs site within p = record {
  gained = p.gained ++ End site ∷ [];
  taken = ap (λ l. l ++ End site ∷ []) p.taken ∙ append_assoc start p.gained (End site ∷ []);
  accepted = p.accepted ∙ sym (accepts_end p.gained site);
  marked = λ n marked.
      dite (ℕ_discrete n site.0)
      (λ (same : n ≡ site.0). subst (λ (k : ℕ). Contains (p.gained ++ End site ∷ []) (End (site_no k))) (sym same)
      (Contains-push p.gained (End site)))
      (λ (other : n ≢ site.0). Contains-append_left p.gained (End site ∷ []) (End (site_no n))
      (p.marked n (sym (get_or-set_other ended site.0 n true false other) ∙ marked)));
  no_other = λ n below off.
      let in_old : n < length ended = omega (arith, below, length-set ended site.0 true) in
      dite (ℕ_discrete n site.0)
      (λ (same : n ≡ site.0). absurd (true≢false (sym (get_or-set_same ended site.0 true false within)
      ∙ (ap (λ (k : ℕ). slice_index_or (set ended site.0 true) k false) (sym same) ∙ off))))
      (λ (other : n ≢ site.0). end_of_other p.gained site n other
      (p.no_other n in_old (sym (get_or-set_other ended site.0 n true false other) ∙ off)));
}

pub finishes : (sites : ℕ) (start now : List Letter) (ended : List Bool) (rs : List Receipt) → length ended ≡ sites
    → Progress start now ended rs → ((n : ℕ) → n < length ended → slice_index_or ended n false ≡ true)
    → Carries sites start now rs
finishes sites start now ended rs len p all = (p.gained, p.taken, p.accepted, λ n below. p.marked n (all n (omega arith)))

stops : (sites : ℕ) (start now : List Letter) (ended : List Bool) (rs : List Receipt) → length ended ≡ sites → Progress start now ended rs
    → (n : ℕ) × (n < length ended) × (slice_index_or ended n false ≡ false)
    → StopsShort sites start now rs
stops sites start now ended rs len p lacking =
    let below : lacking.0 < length ended = lacking.1 in
    (p.gained, p.taken, p.accepted, lacking.0, omega arith, p.no_other lacking.0 below lacking.2)

pub stops_at : (sites : ℕ) (start now after : List Letter) (ended : List Bool) (rs : List Receipt) → after ≡ now → length ended ≡ sites
    → Progress start now ended rs → (n : ℕ) × (n < length ended) × (slice_index_or ended n false ≡ false)
    → StopsShort sites start after rs
stops_at sites start now after ended rs same len p lacking =
    subst (λ (l : List Letter). StopsShort sites start l rs) (sym same) (stops sites start now ended rs len p lacking)

-- the same, as the loop of a courier has it: it took x, which it found to be a letter of that kind
pub begins_at : (taken : List Letter) (sites : ℕ) (ended : List Bool) (rs : List Receipt) → rs ≡ [] → ended ≡ replicate sites false
    → Progress taken taken ended rs
begins_at taken sites ended rs none unmarked =
    subst (λ (q : List Receipt). Progress taken taken ended q) (sym none)
    (subst (λ (l : List Bool). Progress taken taken l []) (sym unmarked) (begins taken (replicate sites false) (none_marked sites)))

pub accepts_at : (start now after : List Letter) (ended : List Bool) (rs rs' : List Receipt) (x : Letter) (s : Statement) (r : Receipt)
    → after ≡ now ++ x ∷ [] → x ≡ Stated s → rs' ≡ rs ++ r ∷ [] → r.entry.command ≡ Accept s
    → Progress start now ended rs → Progress start after ended rs'
accepts_at start now after ended rs rs' x s r taken kind grown command p =
    subst (λ (l : List Letter). Progress start l ended rs') (sym (taken ∙ ap (λ (y : Letter). now ++ y ∷ []) kind))
    (subst (λ (q : List Receipt). Progress start (now ++ Stated s ∷ []) ended q) (sym grown) (accepts start now ended rs s r p command))

pub ends_at : (start now after : List Letter) (ended : List Bool) (rs : List Receipt) (x : Letter) (site : SiteNo) (place : ℕ)
    → after ≡ now ++ x ∷ [] → x ≡ End site → place ≡ site.0 → place < length ended
    → Progress start now ended rs → Progress start after (set ended place true) rs
ends_at start now after ended rs x site place taken kind at within p =
    subst (λ (l : List Letter). Progress start l (set ended place true) rs) (sym (taken ∙ ap (λ (y : Letter). now ++ y ∷ []) kind))
    (subst (λ (k : ℕ). Progress start (now ++ End site ∷ []) (set ended k true) rs) (sym at)
    (ends start now ended rs site (omega (arith, at, within)) p))

pub skips_at : (start now after : List Letter) (ended : List Bool) (rs : List Receipt) (x : Letter) (site : SiteNo) (place : ℕ)
    → after ≡ now ++ x ∷ [] → x ≡ End site → place ≡ site.0 → length ended ≤ place
    → Progress start now ended rs → Progress start after ended rs
skips_at start now after ended rs x site place taken kind at past p =
    subst (λ (l : List Letter). Progress start l ended rs) (sym (taken ∙ ap (λ (y : Letter). now ++ y ∷ []) kind))
    (skips start now ended rs site (omega (arith, at, past)) p)

pub commands_more_at : (rs rs' : List Receipt) (r : Receipt) (c : Command) → rs' ≡ rs ++ r ∷ [] → r.entry.command ≡ c
    → commands_of rs' ≡ commands_of rs ++ c ∷ []
commands_more_at rs rs' r c grown is = ap commands_of grown ∙ (commands_more rs r ∙ ap (λ (d : Command). commands_of rs ++ d ∷ []) is)

pub commands_step : (rs rs' : List Receipt) (r : Receipt) (script : List Command) (i : ℕ) (d : Command) → rs' ≡ rs ++ r ∷ []
    → r.entry.command ≡ slice_index_or script i d → commands_of rs ≡ take i script → i < length script
    → commands_of rs' ≡ take (i + 1) script
commands_step rs rs' r script i d grown is so_far below =
    commands_more_at rs rs' r (slice_index_or script i d) grown is
    ∙ (ap (λ (l : List Command). l ++ slice_index_or script i d ∷ []) so_far ∙ sym (take_more script i d below))

-- one call more, whose receipt is kept
pub counts_more : (start before after : ℕ) (rs rs' : List Receipt) (r : Receipt) → rs' ≡ rs ++ r ∷ [] → after ≡ before + 1
    → before ≡ start + length rs → after ≡ start + length rs'
counts_more start before after rs rs' r grown one so_far =
    let more : length rs' ≡ length rs + 1 = ap (λ (l : List Receipt). length l) grown ∙ length-append rs (r ∷ []) in
    omega arith
