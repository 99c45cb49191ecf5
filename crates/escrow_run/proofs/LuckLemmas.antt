-- A line with luck is cut at its luck, and in no other place.
use Rattle.std.proofs.Common.{◌≡◌, ◌≢◌, ℕ, ◌^◌, ◌<◌, List, [], ◌∷◌, ◌++◌, length, get_or, Option, None, Some, refl, sym, ap, ◌∙◌, append_assoc, append-nil, arith}
use Rattle.std.specs.Prelude.{codes, IfNone}
use Rattle.std.specs.List.{All, AllByRecursion}
use Rattle.std.specs.Fmt.{decimal}
use Rattle.std.proofs.lemmas.List.{length-append, append_cancel_right}
use Rattle.std.proofs.lemmas.List.Elements.{All-from_recursion}
use Rattle.std.proofs.lemmas.Option.{same_Some}
use Rattle.std.proofs.Math.Seq.{get_or-append_seam}
use Rattle.field_bounds.specs.Schema.{SchemaValue}
use Rattle.field_bounds.specs.declared.id.SiteNo.{SiteNo}
use Rattle.field_bounds.specs.declared.entry.Command.{Command}
use Rattle.line_words.specs.Reading.{number_of}
use Rattle.line_words.proofs.Numbers.{number_again}
use Rattle.line_words.proofs.WordLemmas.{IsWord, decimal_word}
use Rattle.entry_text.specs.Spelling.{command_text}
use Rattle.entry_text.specs.Ranges.{SiteFits, CommandFits}
use Rattle.kept_state.specs.declared.luck.Luck.{Luck}
use Rattle.kept_state.specs.declared.luck.Luck.TheVariants.{Fine, Torn}
use Rattle.world_steps.specs.declared.step.WorldStep.TheVariants.{Do}
use Rattle.escrow_run.specs.Text.{luck_text, step_text, NumbersFit}
use Rattle.escrow_run.proofs.StepLemmas.{head_is, tail_is}

-- ---- the last space of a line

abbrev pub IsUnspaced : List ℕ → Type 0
IsUnspaced w = All (λ b. b ≢ 32) w

pub has_space : (w front back : List ℕ) → IsUnspaced w → w ≡ front ++ 32 ∷ back → ⊥
has_space w front back h e =
    h (length front) 0 (omega (arith, ap length e, length-append front (32 ∷ back)))
    (ap (λ (l : List ℕ). get_or l (length front) 0) e ∙ get_or-append_seam front 32 back 0)

pub last_word : (a w b v : List ℕ) → IsUnspaced w → IsUnspaced v → a ++ 32 ∷ w ≡ b ++ 32 ∷ v → (a ≡ b) × (w ≡ v)
last_word [] w [] v hw hv e = (refl, tail_is 32 32 w v e)
last_word [] w (c ∷ b) v hw hv e = absurd (has_space w b v hw (tail_is 32 c w (b ++ 32 ∷ v) e))
last_word (c ∷ a) w [] v hw hv e = absurd (has_space v a w hv (sym (tail_is c 32 (a ++ 32 ∷ w) v e)))
last_word (c ∷ a) w (d ∷ b) v hw hv e =
    let rest = last_word a w b v hw hv (tail_is c d _ _ e) in
    (ap (λ (x : ℕ). x ∷ a) (head_is c d _ _ e) ∙ ap (λ (l : List ℕ). d ∷ l) rest.0, rest.1)

pub word_unspaced : (w : List ℕ) → IsWord w → AllByRecursion (λ b. b ≢ 32) w
word_unspaced [] h = tt
word_unspaced (b ∷ w) h = ((λ e. omega (arith, h.0)), word_unspaced w h.1)

decimal_unspaced : (n : ℕ) → n < 2 ^ 64 → IsUnspaced (decimal n)
decimal_unspaced n small = All-from_recursion _ (decimal n) (word_unspaced (decimal n) (decimal_word n small))

-- ---- the luck of a line

pub luck_joined : (bytes front word plain : List ℕ) (n : ℕ) → bytes ≡ front ++ 32 ∷ word → word ≡ decimal n → front ≡ plain ++ codes " torn"
    → bytes ≡ plain ++ luck_text (Torn n)
luck_joined bytes front word plain n cut number before =
    cut ∙ ap (λ (w : List ℕ). front ++ 32 ∷ w) number ∙ ap (λ (f : List ℕ). f ++ 32 ∷ decimal n) before
    ∙ append_assoc plain (codes " torn") (32 ∷ decimal n)

-- the last word of a line with luck is a number, and the word of luck stands before it
pub luck_cut : (bytes front word plain : List ℕ) (n : ℕ) → n < 2 ^ 64 → IsUnspaced word → bytes ≡ front ++ 32 ∷ word
    → bytes ≡ plain ++ luck_text (Torn n)
    → (front ≡ plain ++ codes " torn") × (word ≡ decimal n)
luck_cut bytes front word plain n small unspaced cut torn =
    last_word front word (plain ++ codes " torn") (decimal n) unspaced (decimal_unspaced n small)
    (sym cut ∙ torn ∙ sym (append_assoc plain (codes " torn") (32 ∷ decimal n)))

-- a line with luck has a space
pub luck_spaced : (bytes plain : List ℕ) (n : ℕ) → IsUnspaced bytes → bytes ≡ plain ++ luck_text (Torn n) → ⊥
luck_spaced bytes plain n unspaced torn = has_space bytes plain (codes "torn " ++ decimal n) unspaced torn

decimal_one : (n m : ℕ) → n < 2 ^ 64 → m < 2 ^ 64 → decimal n ≡ decimal m → n ≡ m
decimal_one n m small below e =
    same_Some n m (sym (number_again (2 ^ 64) n (omega arith) small) ∙ ap (number_of (2 ^ 64)) e
    ∙ number_again (2 ^ 64) m (omega arith) below)

pub luck_one : (plain other : List ℕ) (n m : ℕ) → n < 2 ^ 64 → m < 2 ^ 64 → plain ++ luck_text (Torn n) ≡ other ++ luck_text (Torn m)
    → (plain ≡ other) × (n ≡ m)
luck_one plain other n m small below e =
    let cut = luck_cut (plain ++ luck_text (Torn n)) (plain ++ codes " torn") (decimal n) other m below (decimal_unspaced n small)
    (sym (append_assoc plain (codes " torn") (32 ∷ decimal n))) e in
    (append_cancel_right plain other (codes " torn") cut.0, decimal_one n m small below cut.1)

pub if_none : {A : Type 0} (o : Option A) (P : Type 0) → P → IfNone o P
if_none None P h = h
if_none (Some x) P h = tt

-- ---- a line that asks no command

pub no_command : (schema : SchemaValue) (bytes : List ℕ)
    → ((site : SiteNo) (command : Command) → SiteFits site → CommandFits command → bytes ≢ command_text schema site command)
    → ((site : SiteNo) (command : Command) (n : ℕ) → SiteFits site → CommandFits command → n < 2 ^ 64
    → bytes ≢ command_text schema site command ++ luck_text (Torn n))
    → (site : SiteNo) (command : Command) (luck : Luck) → NumbersFit (Do site command luck) → bytes ≢ step_text schema (Do site command luck)
no_command schema bytes whole torn site command Fine f e =
    whole site command f.0 f.1 (e ∙ append-nil (command_text schema site command))
no_command schema bytes whole torn site command (Torn n) f e = torn site command n f.0 f.1 f.2 e
