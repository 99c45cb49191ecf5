use Rattle.std.proofs.Common.{ℕ, ◌+◌, List, ◌++◌, refl, sym, ap, ◌∙◌, inr}
use Rattle.sealed_text.specs.Seals.{lines_of}
use Rattle.log_head.specs.Heads.{shortened_name}
use Rattle.log_head.specs.declared.gone.HeadKind.TheVariants.{Shortened}
use Rattle.held_logs.proofs.Heads.{short_front}
use Rattle.held_logs.proofs.reading.held_behind.Goals as goal

pub returns-in-Err-Damaged-clause-fault : goal.returns-in-Err-Damaged-clause-fault
returns-in-Err-Damaged-clause-fault c =
    let v = c.args._identity.now in
    let gone = c.args.gone in
    let line = c.in-Err-Damaged.line in
    let front = short_front v c.args.bytes.now (record { kind = Shortened gone; length = c.args.length }) c.args.length gone
    c.requires.begins refl refl in
    inr (record {
      gone = gone;
      told = front.told;
      behind = record {
        text = c.split_at.result.1.now;
        number = line;
        file_is = front.whole ∙ ap (λ (l : List ℕ). shortened_name v gone ++ l) (sym c.split_at.ensures.back);
        damaged = rw c.in-Err-Damaged.field-0-is at c.in-Err-Damaged.ensures.refused;
        line_is = c.damaged_behind.ensures.value ∙ ap (λ (l : List ℕ). lines_of l + line) (c.split_at.ensures.front ∙ front.front);
      };
    })
