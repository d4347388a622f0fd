-- `image::claims` meets its contract: what is claimed of the image, and demand 3 on lent bytes.
use Rattle.image.specs.Claims.{ImageClaims}
use Rattle.image.proofs.Closure.{closure}
use Rattle.image.proofs.ReadBack.{image_reads_back}
use Rattle.image.proofs.OnBytes.{on_bytes}
use Rattle.image.proofs.Demand3Holds.{demand_on_bytes}
use Rattle.image.proofs.claims.Goals as goal

image_claims : ImageClaims
image_claims = record { closure = closure; reads_back = image_reads_back; on_bytes = on_bytes closure }

pub returns : goal.returns
returns c = (image_claims, demand_on_bytes closure)
