-- One answer for each call of the functions of `settings`; of `lookup`, which returns a part of one of two files, one content.
use mathlib.Core.Path.{◌≡◌, refl}
use Rattle.settings.proofs as settings
use Rattle.settings.specs.contracts as settings_contracts
use Rattle.agreement.specs.Agreement.{Agree, AgreeAs}
use Rattle.agreement.proofs.Same.{one}

pub find_setting_agrees : Agree settings_contracts.find_setting.ended settings.find_setting.Reads.Asked settings.find_setting.Reads.Learnt
find_setting_agrees κs a asked r r' ws ws' p p' = (one p p', refl)

pub lookup_agrees : AgreeAs settings_contracts.lookup.ended (λ κs a r r' ws ws'. (r.now ≡ r'.now) × (ws ≡ ws')) settings.lookup.Reads.Asked settings.lookup.Reads.Learnt
lookup_agrees κs a asked r r' ws ws' p p' = (one p p', refl)

pub rewrite_agrees : Agree settings_contracts.rewriting.rewrite.ended settings.rewriting.rewrite.Reads.Asked settings.rewriting.rewrite.Reads.Learnt
rewrite_agrees κs a asked r r' ws ws' p p' = (λ i. (one p p' i).0, λ i. (tt, (tt, ((one p p' i).1, tt))))
