use Rattle.std.proofs.Common.{◌≡◌, List, map, subst, ◌∙◌}
use Rattle.std.proofs.lemmas.List.{map-id}
use Rattle.field_bounds.specs.declared.entry.Entry.{Entry}
use Rattle.site_trace.specs.Keeping.{IsCutBehind}
use Rattle.site_trace.proofs.KeptFronts.{cut_kept}
use Rattle.site_trace.proofs.keeping.kept_entries.Goals as goal

pub returns-clause-some : goal.returns-clause-some
returns-clause-some c =
    let all = c.in_ok-entries.entries.items in
    let same : map (λ (e : Entry). e) c.as_slice.result.now ≡ all = map-id c.as_slice.result.now ∙ c.as_slice.ensures.value in
    cut_kept c.args.schema.now c.args.bytes.now c.args.kept c.in-Some.count all c.truncate.new.self.items c.in_ok-entries.ensures.ok
    (subst (λ (l : List Entry). IsCutBehind l c.args.kept c.in-Some.count) same c.in-Some.ensures.some) c.truncate.ensures.items
