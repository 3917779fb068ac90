use Rattle.wq_cert.proofs.WorkqueueLanes.{lane-on_workqueue, on_workqueue-lane}
use Rattle.wq_cert.proofs.laws.an_item_is_on_the_workqueue_of_its_line.Goals as goal

pub returns : goal.returns
returns c = λ p workqueues i q partition are within. (on_workqueue-lane p workqueues partition are q i within, lane-on_workqueue p workqueues partition are q i)
