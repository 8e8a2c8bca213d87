-- `fill_map` meets its contract: painted into zeros, the runs that the world's tag tells are the world's map. Assumes nothing.
use Rattle.std.proofs.Common.{ap, ◌∙◌, List, ℕ}
use Rattle.model.specs.Bytes.{map_bit}
use Rattle.model.proofs.Slices.{all-bytes}
use Rattle.maps.proofs.Storing.{zeros-bit-none}
use Rattle.maps.proofs.Showing.{nodes-map}
use Rattle.maps.proofs.paint.fill_map.Goals as goal

pub returns : goal.returns
returns c =
    nodes-map c.requires.scannable.1 c.args.window.within (all-bytes c.paint_nodes.new.map c.type_inv.map)
    (c.paint_nodes.ensures.long ∙ c.fill.ensures.len ∙ c.requires.map_len)
    (λ i. ap (λ (b : List ℕ). map_bit b i) (c.fill.ensures.after (λ y e. e)) ∙ zeros-bit-none _ i) c.paint_nodes.ensures
