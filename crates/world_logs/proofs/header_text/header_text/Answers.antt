use Rattle.std.proofs.Common.{◌≡◌, ◌++◌, ◌∙◌, ap, codes, string_bytes, List, ℕ}
use Rattle.std.specs.Fmt.{decimal}
use Rattle.world_logs.specs.HeaderText.{fields_text}
use Rattle.world_logs.proofs.HeaderLines.{five_pieces}
use Rattle.world_logs.proofs.header_text.header_text.Goals as goal

pub returns : goal.returns
returns c =
    let schema = c.args.schema.now in
    let h1 = string_bytes c.in_ok-header.header in
    let h2 = string_bytes c.push_str.new.self in
    let sites : h2 ≡ h1 ++ decimal schema.sites =
    c.in_ok-push_str.ensures.bytes ∙ ap (λ (l : List ℕ). h1 ++ l) c.format.ensures.text
    ∙ ap (λ (n : ℕ). h1 ++ decimal n) c.sites.ensures.value in
    record {
      text = five_pieces h1 h2 (string_bytes c.push_str-2.new.self) (string_bytes c.push_fields.new.header)
          (string_bytes c.push_str-3.new.self) (codes "{\"sites\":") (decimal schema.sites) (codes ",\"fields\":[") (fields_text schema.fields)
          (codes "]}") c.in_ok-header.ensures.ok sites c.in_ok-push_str-2.ensures.bytes c.in_ok-push_fields.ensures.ok
          c.in_ok-push_str-3.ensures.bytes;
    }
