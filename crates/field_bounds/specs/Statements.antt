-- The statements by which gifts are told (Balegas and others 2015 for transfers as entries that only grow, this project
-- for the statement).
use Rattle.std.specs.Prelude.{◌≡◌, ◌⊎◌, Bool, true, false, List, [], ◌∷◌, Option, Some, None}
use Rattle.field_bounds.specs.declared.id.SiteNo.{SiteNo}
use Rattle.field_bounds.specs.declared.entry.Statement.{Statement}
use Rattle.field_bounds.specs.declared.entry.Command.{Command}
use Rattle.field_bounds.specs.declared.entry.Command.TheVariants.{Begin, Escrow, Commit, Abort, Give, Restate, Spare, Tighten, Accept, Read, Share, Restart}
use Rattle.field_bounds.specs.declared.entry.Reply.{Reply}
use Rattle.field_bounds.specs.declared.entry.Reply.TheVariants.{Given, Stated, Spared}
use Rattle.field_bounds.specs.declared.entry.Entry.{Entry}

-- What a command with its reply states, where a site gave the reply: a Give answered Given, a Restate answered Stated, and
-- a Spare answered Spared, state the reply's total.
abbrev pub told_by : SiteNo → Command → Reply → Option Statement
told_by from Begin reply = None
told_by from (Escrow txn field change) reply = None
told_by from (Commit txn) reply = None
told_by from (Abort txn) reply = None
told_by from (Give to field kind amount) (Given total) = Some (record { from = from; to = to; field = field; kind = kind; total = total })
told_by from (Give to field kind amount) reply = None
told_by from (Restate to field kind) (Stated total) = Some (record { from = from; to = to; field = field; kind = kind; total = total })
told_by from (Restate to field kind) reply = None
told_by from (Spare to field kind want) (Spared amount total) =
    Some (record { from = from; to = to; field = field; kind = kind; total = total })
told_by from (Spare to field kind want) reply = None
told_by from (Tighten field kind amount) reply = None
told_by from (Accept told) reply = None
told_by from (Read field) reply = None
told_by from (Share field) reply = None
told_by from Restart reply = None

-- The statement that an entry issues, with its site as the giver.
abbrev pub statement_of : Entry → Option Statement
statement_of e = told_by e.site e.command e.reply

-- An answer to the command may issue a statement: some reply states a total.
abbrev pub may_issue : Command → Bool
may_issue (Give to field kind amount) = true
may_issue (Restate to field kind) = true
may_issue (Spare to field kind want) = true
may_issue Begin = false
may_issue (Escrow txn field change) = false
may_issue (Commit txn) = false
may_issue (Abort txn) = false
may_issue (Tighten field kind amount) = false
may_issue (Accept told) = false
may_issue (Read field) = false
may_issue (Share field) = false
may_issue Restart = false

-- Some entry issues the statement.
abbrev pub IsIssued : Statement → List Entry → Type 0
IsIssued statement [] = ⊥
IsIssued statement (e ∷ t) = (statement_of e ≡ Some statement) ⊎ IsIssued statement t
