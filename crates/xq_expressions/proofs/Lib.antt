mod WorkedRows
mod LastPlaces
