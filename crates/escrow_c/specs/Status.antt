-- How a call ended, as a number (this project).
use Rattle.std.specs.Prelude.{ℕ}
use Rattle.site_handle.specs.declared.fault.OpeningFault.{OpeningFault}
use Rattle.site_handle.specs.declared.fault.OpeningFault.TheVariants as openings
use Rattle.site_handle.specs.declared.fault.CallFault.{CallFault}
use Rattle.site_handle.specs.declared.fault.CallFault.TheVariants as calls

-- The call did what it says.
abbrev pub done : ℕ
done = 0

-- Memory is wanting.
abbrev pub no_memory : ℕ
no_memory = 1

-- The handle is to no site.
abbrev pub closed : ℕ
closed = 2

-- The handle is to a site already.
abbrev pub is_open : ℕ
is_open = 3

-- The header tells no schema.
abbrev pub no_schema : ℕ
no_schema = 4

-- The schema has no site of this number.
abbrev pub no_site : ℕ
no_site = 5

-- A line of the log is no record of this site.
abbrev pub bad_log : ℕ
bad_log = 6

-- The bytes are no line.
abbrev pub no_line : ℕ
no_line = 7

-- The line or the numbers spell no command.
abbrev pub no_command : ℕ
no_command = 8

-- The line spells a command of another site.
abbrev pub other_site : ℕ
other_site = 9

-- There is too little room for the answer.
abbrev pub no_room : ℕ
no_room = 10

-- The command was carried out, and memory is wanting for the text of its entry.
abbrev pub untold : ℕ
untold = 11

-- The site is down.
abbrev pub down : ℕ
down = 12

-- The schema has no field of this number.
abbrev pub no_field : ℕ
no_field = 13

-- The log has fewer bytes.
abbrev pub past_end : ℕ
past_end = 14

-- The script is longer than a run reads.
abbrev pub too_long : ℕ
too_long = 15

-- A line of the trace is no entry.
abbrev pub bad_entry : ℕ
bad_entry = 16

-- An entry of the trace breaks a rule.
abbrev pub illegal : ℕ
illegal = 17

-- The status of a site that isn't opened.
abbrev pub opening_status : OpeningFault → ℕ
opening_status openings.NoMemory = no_memory
opening_status openings.NoSchema = no_schema
opening_status openings.NoSite = no_site
opening_status (openings.Line n) = bad_log

-- The status of a line that isn't carried out, or not told.
abbrev pub call_status : CallFault → ℕ
call_status calls.NoMemory = no_memory
call_status calls.NoLine = no_line
call_status calls.NoCommand = no_command
call_status calls.OtherSite = other_site
call_status calls.Untold = untold
