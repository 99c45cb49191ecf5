-- A site that is opened is sound.
use Rattle.std.specs.List.{AllByRecursion}
use Rattle.kept_records.specs.Text.{IsRecord}
use Rattle.std.proofs.Common.{◌≡◌, ℕ, ◌+◌, ◌<◌, Bool, true, false, List, [], ◌∷◌, ◌++◌, length, refl, sym, ap, subst, ◌∙◌, arith, Option, Some, None}
use Rattle.field_bounds.specs.declared.id.SiteNo.{SiteNo}
use Rattle.field_bounds.specs.declared.entry.Entry.{Entry}
use Rattle.field_bounds.specs.declared.entry.Last.TheVariants.{Nothing}
use Rattle.field_bounds.specs.Schema.{SchemaValue}
use Rattle.field_bounds.specs.Limits.{IsSchema}
use Rattle.field_bounds.specs.Effects.{Base, fresh}
use Rattle.kept_records.specs.declared.medium.Mishap.{Mishap}
use Rattle.kept_records.specs.declared.record.Record.{Record}
use Rattle.kept_records.specs.Logs.{IsLog}
use Rattle.kept_records.specs.Stands.{greatest, plain, since_summary, given_in, accepted_in, base_stood_for}
use Rattle.kept_records.proofs.Summaries.{plain_same, plain_lawful}
use Rattle.field_bounds.proofs.Sums.{sum_below-same}
use Rattle.field_bounds.specs.Kind.{other}
use Rattle.std.proofs.lemmas.List.{append-nil, length-append}
use Rattle.kept_records.proofs.Lines.{same_log}
use Rattle.kept_state.specs.Keeps.{IsBase, base_of_records}
use Rattle.kept_state.proofs.Ranges.{opened_in_range}
use Rattle.kept_state.proofs.Covering.{stands_is_base, fresh_is_base}
use Rattle.escrow_journal.specs.Journal.{Row}
use Rattle.site_step.specs.declared.site.opening.Found.{Found}
use Rattle.site_step.specs.Site.{SiteValue, value_of, doubt_behind, base_of, Finds, Opens}
use Rattle.site_step.specs.State.{StandsOn, IsSoundSite, BeginsHeld, counted_from, ReachesAll}
use Rattle.site_step.specs.Resuming.{all_bytes}
use Rattle.site_step.specs.Opening.{IsFound}
use Rattle.site_step.proofs.Ends.{finds_held}
use Rattle.site_step.proofs.Holding.{plain_append, greatest_plain, holds_all}
use Rattle.site_step.proofs.Prefixes.{with_gone}

-- bytes that are none hold no record
pub no_bytes : (bytes : List ℕ) (rs : List Record) (rest : List ℕ) → IsLog bytes rs rest → bytes ≡ [] → rs ≡ []
no_bytes bytes rs rest log none =
    (same_log [] rs [] rest [] (subst (λ (b : List ℕ). IsLog b rs rest) none log) (record { parts = refl; each = tt; no_lf = refl })).0

nothing_kept : greatest [] ≡ 0
unfolding greatest
nothing_kept = refl

since_none : since_summary [] ≡ 0
unfolding since_summary
since_none = refl

-- what records stand for is what they stand for without their summaries
plain_base : (schema : SchemaValue) (s : ℕ) (base : Base) (bs : List Record) → IsBase schema s base bs → IsBase schema s base (plain bs)
plain_base schema s base bs is =
    let same = plain_same bs in
    record {
      epoch = is.epoch ∙ sym same.epoch;
      rights = λ f k.
          omega (
            arith,
            is.rights f k,
            same.committed f k,
            same.committed f (other k),
            same.cut f k,
            sum_below-same schema.sites (λ (from : ℕ). accepted_in (plain bs) from f k) (λ (from : ℕ). accepted_in bs from f k)
                (λ from below. same.accepted from f k),
            sum_below-same schema.sites (λ (to : ℕ). given_in (plain bs) to f k) (λ (to : ℕ). given_in bs to f k)
                (λ to below. same.given to f k),
          );
      cut = λ f k. is.cut f k ∙ sym (same.cut f k);
      given = λ to f k. is.given to f k ∙ sym (same.given to f k);
      accepted = λ from f k. is.accepted from f k ∙ sym (same.accepted from f k);
    }

pub none_behind : (front bytes : List ℕ) → front ++ bytes ≡ [] → bytes ≡ []
none_behind [] bytes none = none
none_behind (b ∷ front) bytes none = absurd cc

-- ---- a site over what was found

module _ (schema : SchemaValue) (site : SiteNo) (gone : List Record) (found : Found) {held bytes : List ℕ}
    (is : IsFound schema site.0 gone held found) (same : bytes ≡ held) (each : AllByRecursion IsRecord gone)
    (begins : BeginsHeld gone found.based.list.items) where
  -- the records that are held, and all
  abbrev first : List Record
  first = found.based.list.items

  abbrev bs : List Record
  bs = gone ++ found.based.list.items

  -- all bytes
  abbrev whole : List ℕ
  whole = all_bytes gone bytes

  base_is : (empty : Bool) → (empty ≡ true → bs ≡ []) → IsBase schema site.0 (base_of_records schema site.0 empty bs) (plain bs)
  base_is true none = subst (λ (rs : List Record). IsBase schema site.0 (fresh schema site.0) (plain rs)) (sym (none refl))
      (fresh_is_base schema site.0)
  base_is false none = plain_base schema site.0 (base_stood_for schema site.0 false bs) bs (stands_is_base schema site.0 false bs is.lawful)

  stands_first : (base : Base) → StandsOn schema site.0 base [] bs (record { standing = found.standing; journal = []; last = 0 })
  stands_first base = record { standing = is.stands.for_; aside = record { held = is.stands.none; journal = refl }; last = refl }

  log : IsLog (all_bytes gone bytes) bs is.rest
  log = with_gone gone first bytes is.rest each (subst (λ (b : List ℕ). IsLog b first is.rest) (sym same) is.log)

  counts : length (plain gone) + found.extent.count ≡ length (plain bs)
  counts = omega (arith, is.count, ap length (plain_append gone first), length-append (plain gone) (plain first))

  rest_none : whole ≡ [] → is.rest ≡ []
  rest_none none = (same_log [] bs [] is.rest [] (subst (λ (b : List ℕ). IsLog b bs is.rest) none log)
      (record { parts = refl; each = tt; no_lf = refl })).1

  clean_by : (empty : Bool) → (empty ≡ true → whole ≡ []) → empty ≡ true
      → (is.rest ≡ []) × ReachesAll (counted_from (length (plain gone)) found.extent) first bs
  clean_by empty none e =
      let here = no_bytes whole bs is.rest log (none e) in
      let since : since_summary bs ≡ 0 = ap since_summary here ∙ since_none in (
        rest_none (none e),
        record {
          count = counts;
          length_is = is.length_is;
          behind = is.behind ∙ sym since;
          few =
              omega (arith, since);
        },
      )

  -- what is told of a site that is opened so
  pub opens_tells : (failed count : ℕ) (left : Option Mishap) (empty : Bool) {past left_out : List Record} {h : List Entry} → failed ≡ count
      → past ≡ gone → left_out ≡ gone → h ≡ [] → (empty ≡ true → all_bytes gone held ≡ []) → (all_bytes gone held ≡ [] → empty ≡ true)
      → Opens schema site (all_bytes gone held) count (value_of schema site empty (past ++ found.based.list.items) h bytes failed left
      (doubt_behind (length (plain past)) None) 0 left_out)
  opens_tells failed count left empty {past = past} {left_out = left_out} counts past_is gone_is new none some =
      subst (λ (x : List Entry). Opens schema site (all_bytes gone held) count (value_of schema site empty (past ++ found.based.list.items) x
      bytes failed left (doubt_behind (length (plain past)) None) 0 left_out)) (sym new)
      (subst (λ (x : List Record). Opens schema site (all_bytes gone held) count (value_of schema site empty
      (past ++ found.based.list.items) [] bytes failed left (doubt_behind (length (plain past)) None) 0 x)) (sym gone_is)
      (subst (λ (x : List Record). Opens schema site (all_bytes gone held) count (value_of schema site empty
      (x ++ found.based.list.items) [] bytes failed left (doubt_behind (length (plain x)) None) 0 gone)) (sym past_is)
      (record {
        schema = refl;
        site = refl;
        fresh = (none, some);
        rest = is.rest;
        based = with_gone gone first held is.rest each is.log;
        lawful = is.lawful;
        history = refl;
        bytes = ap (all_bytes gone) same;
        failed = counts;
        doubt = refl;
        replayed = refl;
      })))

  up_by : (empty : Bool) → empty ≡ (base_of_records schema site.0 empty bs).up
  up_by true = refl
  up_by false = refl

  module _ (site_in : site.0 < schema.sites) (limits : IsSchema schema) (failed : ℕ) (left : Option Mishap) where
    abbrev made : Bool → List Entry → SiteValue
    made empty h = value_of schema site empty bs h bytes failed left None 0 gone

    sound : (empty : Bool) → (empty ≡ true → whole ≡ [])
        → IsSoundSite (made empty []) empty (counted_from (length (plain gone)) found.extent)
        (record { standing = found.standing; journal = []; last = 0 })
    sound empty none =
        let base = base_is empty (λ e. no_bytes whole bs is.rest log (none e)) in
        record {
          ground = record {
            site_in = site_in;
            limits = limits;
            epoch_in = opened_in_range schema site.0 empty bs log.each;
            is_base = base;
            based_on = plain_lawful schema site.0 bs is.lawful;
          };
          records = bs;
          rest = is.rest;
          kept = false;
          log = log;
          lawful = is.lawful;
          run = tt;
          keeps = refl;
          up_is = up_by empty;
          held = first;
          parts = refl;
          begins = begins;
          clean = clean_by empty none;
          reaches = record {
            before = first;
            behind = [];
            all = sym (append-nil first);
            count = counts;
            length_is = is.length_is;
            first_ =
                refl;
          };
          place = λ n e. let none : ◌≡◌ {A = Option ℕ} None (Some n) = e in absurd cc;
          in_doubt = refl;
          few = λ h. omega (arith, h);
          replays = λ h. omega arith;
          stands = λ u. stands_first (base_of (made empty []));
        }

    -- with what only proofs see as it was made
    abbrev told : Bool → List Record → List Record → List Entry → SiteValue
    told empty past left_out h = value_of schema site empty (past ++ found.based.list.items) h bytes failed left
        (doubt_behind (length (plain past)) None) 0 left_out

    pub opens_sound : (empty : Bool) {past left_out : List Record} {h : List Entry} {j : List Row} → past ≡ gone → left_out ≡ gone → h ≡ []
        → j ≡ [] → (empty ≡ true → all_bytes gone held ≡ [])
        → IsSoundSite (told empty past left_out h) empty (counted_from (length (plain past)) found.extent)
        (record { standing = found.standing; journal = j; last = 0 })
    opens_sound empty {past = past} {left_out = left_out} {h = h} {j = j} past_is gone_is new closed none =
        subst (λ (x : List Row). IsSoundSite (told empty past left_out h) empty (counted_from (length (plain past)) found.extent)
        (record { standing = found.standing; journal = x; last = 0 })) (sym closed)
        (subst (λ (x : List Entry). IsSoundSite (told empty past left_out x) empty (counted_from (length (plain past)) found.extent)
        (record { standing = found.standing; journal = []; last = 0 })) (sym new)
        (subst (λ (x : List Record). IsSoundSite (told empty past x []) empty (counted_from (length (plain past)) found.extent)
        (record { standing = found.standing; journal = []; last = 0 })) (sym gone_is)
        (subst (λ (x : List Record). IsSoundSite (told empty x gone []) empty (counted_from (length (plain x)) found.extent)
        (record { standing = found.standing; journal = []; last = 0 })) (sym past_is)
        (sound empty (λ e. ap (all_bytes gone) same ∙ none e)))))

    pub opens_finds : (empty : Bool) {past left_out : List Record} {h : List Entry} → past ≡ gone → left_out ≡ gone → h ≡ []
        → all_bytes gone held ≡ [] → Finds (told empty past left_out h) 0 Nothing
    opens_finds empty {past = past} {left_out = left_out} past_is gone_is new none =
        subst (λ (x : List Entry). Finds (told empty past left_out x) 0 Nothing) (sym new)
        (subst (λ (x : List Record). Finds (told empty past x []) 0 Nothing) (sym gone_is)
        (subst (λ (x : List Record). Finds (told empty x gone []) 0 Nothing) (sym past_is)
        (finds_held (made empty []) (plain bs) is.rest 0 Nothing (holds_all schema site.0 whole bs is.rest log is.lawful)
        (greatest_plain bs ∙ ap greatest (no_bytes whole bs is.rest log (ap (all_bytes gone) same ∙ none)) ∙ nothing_kept) refl)))
