use Rattle.wq_repair.proofs.repairing.repair.Goals as goal
