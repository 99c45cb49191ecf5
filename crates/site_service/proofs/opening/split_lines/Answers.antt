use Rattle.std.proofs.Common.{ap, ◌∙◌}
use Rattle.site_service.specs.Kept.{LastNotes, last_of}
use Rattle.site_service.proofs.KeyedTexts.{records_whole}
use Rattle.site_service.proofs.opening.split_lines.Goals as goal

pub returns-clause-is : goal.returns-clause-is
returns-clause-is c =
    let split = c.in_ok-table.ensures.split in
    record {
      notes = split.notes;
      keyed = split.keyed;
      tells = λ key. ap (λ (rows : LastNotes). last_of rows key) c.of_table.ensures.last ∙ split.tells key;
    }

pub returns-clause-whole : goal.returns-clause-whole
returns-clause-whole c =
    let split = c.in_ok-table.ensures.split in
    records_whole c.args.lines.items split.notes c.in_ok-table.records.items split.keyed c.requires.whole
