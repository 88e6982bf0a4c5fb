-- By what in order says of the store and of its images.
use Rattle.devices.specs.World.{now}
use Rattle.flat_recovery.proofs.OrderLaws.{order_store, left_tail}
use Rattle.spitfire_app.proofs.OrderLaws.{left_in_order, order_holds}
use Rattle.spitfire_app.proofs.laws.in_order.Goals as goal

pub returns-clause-store : goal.returns-clause-store
returns-clause-store c = λ g T d told order low. (order_store g d told order.order low, order_holds g T d.lines d.blocks (now d) order)

pub returns-clause-images : goal.returns-clause-images
returns-clause-images c = λ g T lines blocks s order i left. (left_in_order g T lines blocks s order i left, left_tail g lines blocks s order.order i left)
