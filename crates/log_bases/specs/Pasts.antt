-- Records that a balanced base is the summary of: one right at a time is given or accepted, field by field. Of another base
-- nothing is said of them. They are never made: definitions alone name them (this project).
use Rattle.std.specs.Prelude.{ℕ, zero, suc, ◌+◌, ◌-◌, ◌==◌, nat_lt, ℤ, pos, negsuc, if◌then◌else◌, List, [], ◌∷◌, ◌++◌, length, Option, Some, None}
use Rattle.field_bounds.specs.declared.kind.Kind.{Kind}
use Rattle.field_bounds.specs.declared.kind.Kind.TheVariants.{Lower, Raise}
use Rattle.field_bounds.specs.declared.entry.Escrow.{Escrow}
use Rattle.field_bounds.specs.Kind.{other}
use Rattle.field_bounds.specs.Schema.{SchemaValue}
use Rattle.kept_records.specs.declared.record.Record.{Record}
use Rattle.kept_records.specs.declared.record.Record.TheVariants.{Commit, Gift, Accept, Tighten, Restart}
use Rattle.kept_records.specs.Summary.{SummaryValue, rights_told, total_told, cut_told}
use Rattle.kept_records.specs.Stands.{given_in, accepted_in, own_in}
use Rattle.log_bases.specs.Bases.{given_told, accepted_told}

-- ---- one record

-- So many rights of a kind and one more, as a change.
abbrev pub change_of : Kind → ℕ → ℤ
change_of Lower m = negsuc m
change_of Raise m = pos (suc m)

abbrev pub escrow_of : ℕ → Kind → ℕ → Escrow
escrow_of f k m = record { field = record { 0 = f }; change = change_of k m }

-- A commit of one escrow; its id may stand again and again.
abbrev pub commit_of : ℕ → Kind → ℕ → Record
commit_of f k m = Commit (record { epoch = 0; number = 1 }) (escrow_of f k m ∷ [])

abbrev pub gift_of : ℕ → ℕ → Kind → ℕ → Record
gift_of to f k total = Gift (record { 0 = to }) (record { 0 = f }) k total

abbrev pub accept_of : ℕ → ℕ → Kind → ℕ → Record
accept_of from f k total = Accept (record { 0 = from }) (record { 0 = f }) k total

abbrev pub tighten_of : ℕ → Kind → ℕ → Record
tighten_of f k total = Tighten (record { 0 = f }) k total

-- ---- one right at a time

-- The last of the first n sites whose total is below what is wanted.
abbrev pub short_at : ℕ → (ℕ → ℕ) → (ℕ → ℕ) → Option ℕ
short_at zero had wanted = None
short_at (suc n) had wanted = if nat_lt (had n) (wanted n) then Some n else short_at n had wanted

abbrev pub short_of_gifts : SchemaValue → SummaryValue → ℕ → Kind → List Record → Option ℕ
short_of_gifts schema base f k rs = short_at schema.sites (λ to. given_in rs to f k) (λ to. total_told base.gifts to f k)

abbrev pub short_of_accepts : SchemaValue → SummaryValue → ℕ → Kind → List Record → Option ℕ
short_of_accepts schema base f k rs = short_at schema.sites (λ from. accepted_in rs from f k) (λ from. total_told base.accepts from f k)

-- Where no right of this kind is owned, one of the other is turned into it.
abbrev pub turned : SchemaValue → ℕ → ℕ → Kind → List Record → List Record
turned schema s f k rs = if own_in schema s rs f k == 0 then rs ++ commit_of f (other k) 0 ∷ [] else rs

abbrev pub one_gift : ℕ → ℕ → Kind → List Record → List Record
one_gift to f k rs = rs ++ gift_of to f k (given_in rs to f k + 1) ∷ []

abbrev pub one_accept : ℕ → ℕ → Kind → List Record → List Record
one_accept from f k rs = rs ++ accept_of from f k (accepted_in rs from f k + 1) ∷ []

-- One right is accepted, to lower where a site is short of that, else to raise.
abbrev pub accept_by : ℕ → List Record → Option ℕ → Option ℕ → List Record
accept_by f rs (Some from) raise = one_accept from f Lower rs
accept_by f rs None (Some from) = one_accept from f Raise rs
accept_by f rs None None = rs

-- One right is given, and where no site is short of one, accepted.
abbrev pub give_by : SchemaValue → ℕ → ℕ → List Record → Option ℕ → Option ℕ → Option ℕ → Option ℕ → List Record
give_by schema s f rs (Some to) raise lower' raise' = one_gift to f Lower (turned schema s f Lower rs)
give_by schema s f rs None (Some to) lower' raise' = one_gift to f Raise (turned schema s f Raise rs)
give_by schema s f rs None None lower' raise' = accept_by f rs lower' raise'

-- One step: a gift where a right is owned, else an acceptance.
abbrev pub next : SchemaValue → ℕ → SummaryValue → ℕ → List Record → List Record
next schema s base f rs =
    if nat_lt 0 (own_in schema s rs f Lower + own_in schema s rs f Raise)
    then give_by schema s f rs (short_of_gifts schema base f Lower rs) (short_of_gifts schema base f Raise rs)
    (short_of_accepts schema base f Lower rs) (short_of_accepts schema base f Raise rs)
    else accept_by f rs (short_of_accepts schema base f Lower rs) (short_of_accepts schema base f Raise rs)

-- So many steps.
unfoldable pub moved : ℕ → SchemaValue → ℕ → SummaryValue → ℕ → List Record → List Record
moved zero schema s base f rs = rs
moved (suc n) schema s base f rs = moved n schema s base f (next schema s base f rs)

-- ---- the kinds that are wanted, and what was given up

-- The rights of a kind that a base tells, with those given up.
abbrev pub wanted : SummaryValue → ℕ → Kind → ℕ
wanted base f k = rights_told base.rights f k + cut_told base.tightenings f k

-- What is owned of a kind above what is wanted is turned.
abbrev pub to_kind : SchemaValue → ℕ → SummaryValue → ℕ → Kind → List Record → List Record
to_kind schema s base f k rs =
    if nat_lt (wanted base f k) (own_in schema s rs f k)
    then rs ++ commit_of f k (own_in schema s rs f k - (wanted base f k + 1)) ∷ []
    else rs

abbrev pub given_up : SummaryValue → ℕ → Kind → List Record → List Record
given_up base f k rs =
    if cut_told base.tightenings f k == 0 then rs else rs ++ tighten_of f k (cut_told base.tightenings f k) ∷ []

-- ---- all fields

unfoldable pub field_past : SchemaValue → ℕ → SummaryValue → ℕ → List Record → List Record
field_past schema s base f rs =
    given_up base f Raise (given_up base f Lower (to_kind schema s base f Raise (to_kind schema s base f Lower
    (moved (given_told schema base f + accepted_told schema base f) schema s base f rs))))

-- Those of the first n fields.
unfoldable pub fields_past : ℕ → SchemaValue → ℕ → SummaryValue → List Record
fields_past zero schema s base = []
fields_past (suc n) schema s base = field_past schema s base n (fields_past n schema s base)

abbrev pub restarted : ℕ → List Record → List Record
restarted epoch rs = if epoch == 0 then rs else rs ++ Restart epoch ∷ []

unfoldable pub past_of : SchemaValue → ℕ → SummaryValue → List Record
past_of schema s base = restarted base.epoch (fields_past (length schema.fields) schema s base)
