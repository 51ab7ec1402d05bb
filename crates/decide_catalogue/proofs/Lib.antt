mod Offered
