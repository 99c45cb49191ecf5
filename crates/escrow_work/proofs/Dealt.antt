-- The scripts of lines, one more line at a time.
use Rattle.std.proofs.Common.{◌≡◌, ◌≢◌, ℕ, zero, suc, ◌+◌, ◌<◌, Bool, true, false, cond, eqb, List, [], ◌∷◌, ◌++◌, length, set, get_or, refl, sym, ap, ◌∙◌, add-one, arith}
use Rattle.std.proofs.lemmas.List.{map-append}
use Rattle.std.specs.Global.{Vec}
use Rattle.std.proofs.lemmas.Bool.{eq-eqb, ne_eqb}
use Rattle.field_bounds.specs.declared.id.SiteNo.{SiteNo}
use Rattle.field_bounds.specs.declared.entry.Command.{Command}
use Rattle.field_bounds.specs.Schema.{SchemaValue}
use Rattle.field_bounds.specs.Shape.{is_accept}
use Rattle.site_workers.specs.Scripts.{HasNoAccept, AreSpared, ScriptsFit, scripts_of}
use Rattle.escrow_work.specs.Scripts.{AreAsked, script_of, scripts_above, scripts_from, with_command}

-- ---- one command more

skip_cond : (b : Bool) (c : Command) (xs ys zs : List Command) → xs ≡ ys ++ zs → cond b (c ∷ xs) xs ≡ cond b (c ∷ ys) ys ++ zs
skip_cond true c xs ys zs e = ap (λ (l : List Command). c ∷ l) e
skip_cond false c xs ys zs e = e

script_here : (s : ℕ) (asked : List (SiteNo × Command)) (site : SiteNo) (command : Command) → site.0 ≡ s
    → script_of s (asked ++ (site, command) ∷ []) ≡ script_of s asked ++ command ∷ []
script_here s [] site command is = ap (λ (b : Bool). cond b (command ∷ []) []) (eq-eqb site.0 s is)
script_here s (a ∷ asked) site command is = skip_cond (eqb a.0.0 s) a.1 (script_of s (asked ++ (site, command) ∷ []))
    (script_of s asked) (command ∷ []) (script_here s asked site command is)

same_cond : (b : Bool) (c : Command) (xs ys : List Command) → xs ≡ ys → cond b (c ∷ xs) xs ≡ cond b (c ∷ ys) ys
same_cond true c xs ys e = ap (λ (l : List Command). c ∷ l) e
same_cond false c xs ys e = e

script_there : (s : ℕ) (asked : List (SiteNo × Command)) (site : SiteNo) (command : Command) → site.0 ≢ s
    → script_of s (asked ++ (site, command) ∷ []) ≡ script_of s asked
script_there s [] site command other = ap (λ (b : Bool). cond b (command ∷ []) []) (ne_eqb site.0 s other)
script_there s (a ∷ asked) site command other = same_cond (eqb a.0.0 s) a.1 (script_of s (asked ++ (site, command) ∷ []))
    (script_of s asked) (script_there s asked site command other)

above_there : (s n : ℕ) (asked : List (SiteNo × Command)) (site : SiteNo) (command : Command) → site.0 < s
    → scripts_above s n (asked ++ (site, command) ∷ []) ≡ scripts_above s n asked
above_there s zero asked site command below = refl
above_there s (suc n) asked site command below =
    ap (λ (l : List Command). l ∷ scripts_above (s + 1) n (asked ++ (site, command) ∷ [])) (script_there s asked site command
    (λ e. omega (arith, e, below)))
    ∙ ap (λ (l : List (List Command)). script_of s asked ∷ l) (above_there (s + 1) n asked site command (omega (arith, below)))

above_more : (s n i : ℕ) (asked : List (SiteNo × Command)) (site : SiteNo) (command : Command) → i < n → site.0 ≡ s + i
    → scripts_above s n (asked ++ (site, command) ∷ []) ≡ with_command (scripts_above s n asked) i command
above_more s zero i asked site command below is = absurd (omega (arith, below))
above_more s (suc n) zero asked site command below is =
    let here : site.0 ≡ s = omega (arith, is) in
    ap (λ (l : List Command). l ∷ scripts_above (s + 1) n (asked ++ (site, command) ∷ [])) (script_here s asked site command here)
    ∙ ap (λ (l : List (List Command)). (script_of s asked ++ command ∷ []) ∷ l) (above_there (s + 1) n asked site command
    (omega (arith, is)))
above_more s (suc n) (suc i) asked site command below is =
    ap (λ (l : List Command). l ∷ scripts_above (s + 1) n (asked ++ (site, command) ∷ [])) (script_there s asked site command
    (λ e. omega (arith, e, is)))
    ∙ ap (λ (l : List (List Command)). script_of s asked ∷ l) (above_more (s + 1) n i asked site command (omega (arith, below))
    (omega (arith, is)))

pub dealt_more : (sites : ℕ) (asked : List (SiteNo × Command)) (site : SiteNo) (command : Command) → site.0 < sites
    → scripts_from sites (asked ++ (site, command) ∷ []) ≡ with_command (scripts_from sites asked) site.0 command
dealt_more sites asked site command below = above_more 0 sites site.0 asked site command below (omega arith)

-- no script has a command
none_above : (s n : ℕ) → scripts_above s (suc n) [] ≡ scripts_above s n [] ++ [] ∷ []
none_above s zero = refl
none_above s (suc n) = ap (λ (l : List (List Command)). [] ∷ l) (none_above (s + 1) n)

-- ---- the scripts fit

plain_cond : (b : Bool) (c : Command) (cs : List Command) → is_accept c ≡ false → HasNoAccept cs → HasNoAccept (cond b (c ∷ cs) cs)
plain_cond true c cs one rest = (one, rest)
plain_cond false c cs one rest = rest

plain_script : (schema : SchemaValue) (s : ℕ) (lines : List (List ℕ)) (asked : List (SiteNo × Command)) → AreAsked schema lines asked
    → HasNoAccept (script_of s asked)
plain_script schema s [] [] each = tt
plain_script schema s [] (a ∷ asked) each = absurd each
plain_script schema s (line ∷ lines) [] each = absurd each
plain_script schema s (line ∷ lines) (a ∷ asked) each = plain_cond (eqb a.0.0 s) a.1 (script_of s asked) each.0.no_accept
    (plain_script schema s lines asked each.1)

above_spared : (schema : SchemaValue) (s n : ℕ) (lines : List (List ℕ)) (asked : List (SiteNo × Command)) → AreAsked schema lines asked
    → AreSpared (scripts_above s n asked)
above_spared schema s zero lines asked each = tt
above_spared schema s (suc n) lines asked each = (plain_script schema s lines asked each, above_spared schema (s + 1) n lines asked each)

above_count : (s n : ℕ) (asked : List (SiteNo × Command)) → length (scripts_above s n asked) ≡ n
above_count s zero asked = refl
above_count s (suc n) asked = let e : length (scripts_above (s + 1) n asked) ≡ n = above_count (s + 1) n asked in omega (arith, e)

pub dealt_fit : (schema : SchemaValue) (lines : List (List ℕ)) (asked : List (SiteNo × Command)) → AreAsked schema lines asked
    → ScriptsFit schema (scripts_from schema.sites asked)
dealt_fit schema lines asked each = (above_count 0 schema.sites asked, above_spared schema 0 schema.sites lines asked each)

-- ---- vectors of scripts

pub dealt_at : (vs : List (Vec Command)) (i : ℕ) (v w : Vec Command) (command : Command) → i < length vs → v ≡ get_or vs i v
    → w.items ≡ v.items ++ command ∷ []
    → scripts_of (set vs i w) ≡ with_command (scripts_of vs) i command
dealt_at [] i v w command below is grown = absurd (omega (arith, below))
dealt_at (u ∷ vs) zero v w command below is grown = ap (λ (l : List Command). l ∷ scripts_of vs)
    (grown ∙ ap (λ (x : Vec Command). x.items ++ command ∷ []) is)
dealt_at (u ∷ vs) (suc i) v w command below is grown = ap (λ (l : List (List Command)). u.items ∷ l) (dealt_at vs i v w command
    (omega (arith, below)) is grown)

pub none_more : (n : ℕ) (vs next : List (Vec Command)) (v : Vec Command) → scripts_of vs ≡ scripts_from n [] → next ≡ vs ++ v ∷ []
    → v.items ≡ [] → scripts_of next ≡ scripts_from (n + 1) []
none_more n vs next v before pushed empty =
    ap scripts_of pushed ∙ map-append (λ (w : Vec Command). w.items) vs (v ∷ [])
    ∙ ap (λ (l : List (List Command)). l ++ v.items ∷ []) before
    ∙ ap (λ (l : List Command). scripts_from n [] ++ l ∷ []) empty ∙ sym (none_above 0 n)
    ∙ ap (λ (k : ℕ). scripts_above 0 k []) (sym (add-one n))
