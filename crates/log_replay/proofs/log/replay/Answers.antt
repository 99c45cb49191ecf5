use Rattle.std.proofs.Common.{Bool, ◌≡◌, ◌∙◌, ◌+◌, append_assoc, ◌++◌, ◌∷◌, [], List, take, drop, sym, ap, subst, arith}
use Rattle.std.proofs.lemmas.List.{take_more, take-append-drop, length-take}
use Rattle.kept_records.specs.declared.record.Record.{Record}
use Rattle.kept_records.specs.Stands.{Lawful}
use Rattle.kept_records.proofs.Pushes.{lawful_push}
use Rattle.log_replay.specs.Standing.{IsStandingFor, TakesIn}
use Rattle.log_replay.proofs.StandingLaws.{has_places, after_one}
use Rattle.log_replay.proofs.log.replay.Goals as goal

pub take_next-requires-clause-places : goal.take_next-requires-clause-places
take_next-requires-clause-places c =
    let now = c.loop-record.standing in
    has_places c.args.schema.now c.args.site.0 (take c.loop-record.record-index c.args.records.now) now.rights now.ledger now.epoch
    c.loop-record.invariant.standing.for_

pub returns-then-not-branch-clause-broken : goal.returns-then-not-branch-clause-broken
returns-then-not-branch-clause-broken c =
    let schema = c.args.schema.now in
    let s = c.args.site.0 in
    let rs = c.args.records.now in
    let i = c.loop-record.record-index in
    let r = c.record-item.result in
    let was = c.loop-record.invariant in
    let more : take (i + 1) rs ≡ take i rs ++ r ∷ [] =
    take_more rs i r c.loop-record-test.true ∙ ap (λ (x : Record). take i rs ++ x ∷ []) (sym c.record-item.is) in
    record {
      before = take i rs;
      breaking = r;
      behind = drop (i + 1) rs;
      place = omega (arith, was.count, length-take i rs, c.loop-record-test.true);
      parts = sym (take-append-drop (i + 1) rs) ∙ ap (λ (xs : List Record). xs ++ drop (i + 1) rs) more
          ∙ append_assoc (take i rs) (r ∷ []) (drop (i + 1) rs);
      lawful = was.lawful;
      broken = sym (c.in_ok-take_next.ensures.takes_in.answered s (take i rs) was.lawful was.standing) ∙ c.if-not-branch.true;
    }

pub loop-record-preserved : goal.loop-record-preserved
loop-record-preserved c =
    let schema = c.args.schema.now in
    let s = c.args.site.0 in
    let rs = c.args.records.now in
    let i = c.loop-record.record-index in
    let r = c.record-item.result in
    let was = c.loop-record.invariant in
    let new = c.take_next.new.standing in
    let may = sym (c.in_ok-take_next.ensures.takes_in.answered s (take i rs) was.lawful was.standing) ∙ c.if-not-branch.false in
    let more : take (i + 1) rs ≡ take i rs ++ r ∷ [] =
    take_more rs i r c.loop-record-test.true ∙ ap (λ (x : Record). take i rs ++ x ∷ []) (sym c.record-item.is) in
    record {
      count = ap (λ n. n + 1) was.count;
      lawful = subst (λ (xs : List Record). Lawful schema s xs) (sym more) (lawful_push schema s (take i rs) r was.lawful may);
      standing = subst (λ (xs : List Record). IsStandingFor schema s xs new) (sym more)
          (after_one schema s (take i rs) r c.loop-record.standing new was.lawful was.standing
          (subst (λ (b : Bool). TakesIn schema c.loop-record.standing r b new) c.if-not-branch.false c.in_ok-take_next.ensures.takes_in));
    }
