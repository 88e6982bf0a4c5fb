pub mod RowsLaws
pub mod TablesLaws
pub mod RefusalLaws
