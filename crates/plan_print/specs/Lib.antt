pub mod Printed
pub mod PlanEnds
