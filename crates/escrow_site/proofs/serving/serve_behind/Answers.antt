use Rattle.std.proofs.Common.{ℕ, List, Option, None, Some}
use Rattle.field_bounds.specs.Schema.{SchemaValue}
use Rattle.field_bounds.specs.declared.id.SiteNo.{SiteNo}
use Rattle.log_head.specs.declared.gone.Gone.{Gone}
use Rattle.site_service.specs.Service.{ServiceValue, IsSettled}
use Rattle.folder_serving.specs.Serving.{IsOpenedOver}
use Rattle.escrow_site.proofs.serving.serve_behind.Goals as goal

-- a service that was opened is settled
settled_over : (schema : SchemaValue) (number : SiteNo) (gone : Option Gone) (known : Option (List ℕ)) (v : ServiceValue)
    → IsOpenedOver schema number gone known v → IsSettled v
settled_over schema number None known v opened = opened.started.settled
settled_over schema number (Some told) known v opened = opened.started.settled

pub keep_streams-served-requires : goal.keep_streams-served-requires
keep_streams-served-requires g c = record { safe = settled_over _ _ _ _ _ c.in_ok-service.ensures.opened }

pub serve_streams-served-requires : goal.serve_streams-served-requires
serve_streams-served-requires g c = record { safe = settled_over _ _ _ _ _ c.in_ok-service.ensures.opened }
